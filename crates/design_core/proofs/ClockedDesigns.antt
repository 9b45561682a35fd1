-- A design of clocked processes alone is legal where each process is within bounds, assigns registers by nonblocking assignments, and reads inputs and registers.
use Rattle.std.proofs.Common.{◌≡◌, ℕ, true, false, List, [], sym, ap, ◌∙◌, subst, get_or, length, ◌<◌, true≢false, Some, None}
use Rattle.std.specs.Prelude.{All, Contains}
use Rattle.std.proofs.lemmas.List.Elements.{All-nil}
use Rattle.design_core.specs.declared.flat.ProcKind.TheVariants.{Clocked}
use Rattle.design_core.specs.declared.flat.Process.{Process}
use Rattle.design_core.specs.declared.flat.Reset.{Reset}
use Rattle.design_core.specs.declared.flat.Design.{Design}
use Rattle.design_core.specs.Drive.{drives, needs}
use Rattle.design_core.specs.Bounds.{IsWithin, AssignsBy}
use Rattle.design_core.specs.Settled.{is_clocked, reset_of}
use Rattle.design_core.specs.Resets.{HasReset}
use Rattle.design_core.specs.Legality.{Distinct, OneDriver, is_given, process_at, IsLegal}

-- what is asked of a process
pub record IsPlain (d : Design) (p : Process) : Type 0 where
  pub kind : p.kind ≡ Clocked None
  pub within : IsWithin p.body (length d.bits) (length d.sites)
  pub waits : AssignsBy true p.body
  pub reads : (b : ℕ) → needs p.body b ≡ true → is_given d b ≡ true
  pub targets : (b : ℕ) → drives p.body b ≡ true → Contains d.registers b

-- what is asked of the design
pub record IsPlainDesign (d : Design) : Type 0 where
  pub plain : All (IsPlain d) d.processes
  pub one_driver : OneDriver d.processes
  pub inputs_within : All (λ b. b < length d.bits) d.inputs
  pub inputs_distinct : Distinct d.inputs
  pub registers_within : All (λ b. b < length d.bits) d.registers
  pub registers_distinct : Distinct d.registers
  pub apart : (b : ℕ) → Contains d.inputs b → Contains d.registers b → ⊥

none_is : (r : Reset) → None ≡ Some r → ⊥
none_is r e = cc

all_of : {P Q : Process → Type 0} (ps : List Process) → ((p : Process) → P p → Q p) → All P ps → All Q ps
all_of ps f all k p lt = f (get_or ps k p) (all k p lt)

module _ (d : Design) (h : IsPlainDesign d) where
  never : (k : ℕ) → k < length d.processes → is_clocked (process_at d k).kind ≡ false → Contains [] k
  never k lt comb = absurd (true≢false (sym (ap is_clocked (h.plain k _ lt).kind) ∙ comb))

  pub clocked_designs_are_legal : IsLegal d []
  clocked_designs_are_legal = record {
    within = all_of {P = IsPlain d} {Q = λ p. IsWithin p.body (length d.bits) (length d.sites)} d.processes (λ p x. x.within) h.plain;
    assigns = all_of {P = IsPlain d} {Q = λ p. AssignsBy (is_clocked p.kind) p.body} d.processes (λ p x. subst (λ k. AssignsBy (is_clocked k) p.body) (sym x.kind) x.waits) h.plain;
    resets = all_of {P = IsPlain d} {Q = HasReset d} d.processes (λ p x. let f : HasReset d p = λ r e. absurd (none_is r (sym (ap reset_of x.kind) ∙ e)) in f) h.plain;
    named = All-nil (λ k. k < length d.processes);
    combinational = All-nil (λ k. is_clocked (process_at d k).kind ≡ false);
    each = never;
    inputs_within = h.inputs_within;
    inputs_distinct = h.inputs_distinct;
    registers_within = h.registers_within;
    registers_distinct = h.registers_distinct;
    apart = h.apart;
    placed = tt;
    reads = all_of {P = IsPlain d} {Q = λ p. (b : ℕ) → needs p.body b ≡ true → is_given d b ≡ true} d.processes (λ p x. x.reads) h.plain;
    one_driver = h.one_driver;
    clocked = all_of {P = IsPlain d} {Q = λ p. is_clocked p.kind ≡ true → (b : ℕ) → drives p.body b ≡ true → Contains d.registers b} d.processes (λ p x c. x.targets) h.plain;
  }
