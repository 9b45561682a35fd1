-- Legal designs.
use Rattle.std.specs.Prelude.{ℕ, ◌≡◌, ◌<◌, Bool, true, false, ◌||◌, List, [], ◌∷◌, length, get_or, slice_get, Some, None, map, All, Contains}
use Rattle.design_core.specs.declared.flat.Stmt.{Stmt}
use Rattle.design_core.specs.declared.flat.Stmt.TheVariants.{Block}
use Rattle.design_core.specs.declared.flat.ProcKind.TheVariants.{Comb}
use Rattle.design_core.specs.declared.flat.Process.{Process}
use Rattle.design_core.specs.declared.flat.Design.{Design}
use Rattle.bit_exprs.specs.Named.{among}
use Rattle.design_core.specs.Drive.{drives, always, needs}
use Rattle.design_core.specs.Bounds.{IsWithin, AssignsBy}
use Rattle.design_core.specs.Settled.{is_clocked}
use Rattle.design_core.specs.Resets.{HasReset}

-- a process that does nothing
abbrev pub idle : Process
idle = record { at = record { line = 0; col = 0 }; kind = Comb; events = None; body = Block [] }

-- the process of a number
abbrev pub process_at : Design → ℕ → Process
process_at d k = get_or d.processes k idle

abbrev pub bodies : Design → List ℕ → List Stmt
bodies d order = map (λ k. (process_at d k).body) order

-- each body in turn needs only what is known, and drives bits not yet known, on every path
abbrev pub Placed : (ℕ → Bool) → List Stmt → Type 0
Placed known [] = Unit {0}
Placed known (s ∷ rest) =
    ((b : ℕ) → needs s b ≡ true → known b ≡ true)
    × ((b : ℕ) → drives s b ≡ true → (always s b ≡ true) × (known b ≡ false))
    × Placed (λ b. known b || drives s b) rest

-- an input or a register
abbrev pub is_given : Design → ℕ → Bool
is_given d b = among d.inputs b || among d.registers b

-- known once these bodies were executed
abbrev pub known_after : (ℕ → Bool) → List Stmt → ℕ → Bool
known_after known [] b = known b
known_after known (s ∷ rest) b = known_after (λ c. known c || drives s c) rest b

-- an input or a register, or a body of the order drives it
abbrev pub is_known : Design → List ℕ → ℕ → Bool
is_known d order b = known_after (is_given d) (bodies d order) b

-- no two places of the list have the same bit
abbrev pub Distinct : List ℕ → Type 0
Distinct bits = (j k b : ℕ) → slice_get bits j ≡ Some b → slice_get bits k ≡ Some b → j ≡ k

-- no two processes drive one bit
abbrev pub OneDriver : List Process → Type 0
OneDriver ps = (j k b : ℕ) (p q : Process) → slice_get ps j ≡ Some p → slice_get ps k ≡ Some q → drives p.body b ≡ true → drives q.body b ≡ true → j ≡ k

-- the design can be run, its combinational processes in this order
pub record IsLegal (d : Design) (order : List ℕ) : Type 0 where
  pub within : All (λ p. IsWithin p.body (length d.bits) (length d.sites)) d.processes
  pub assigns : All (λ p. AssignsBy (is_clocked p.kind) p.body) d.processes
  pub resets : All (λ p. HasReset d p) d.processes
  pub named : All (λ k. k < length d.processes) order
  pub combinational : All (λ k. is_clocked (process_at d k).kind ≡ false) order
  pub each : (k : ℕ) → k < length d.processes → is_clocked (process_at d k).kind ≡ false → Contains order k
  pub inputs_within : All (λ b. b < length d.bits) d.inputs
  pub inputs_distinct : Distinct d.inputs
  pub registers_within : All (λ b. b < length d.bits) d.registers
  pub registers_distinct : Distinct d.registers
  pub apart : (b : ℕ) → Contains d.inputs b → Contains d.registers b → ⊥
  pub placed : Placed (is_given d) (bodies d order)
  pub reads : All (λ p. (b : ℕ) → needs p.body b ≡ true → is_known d order b ≡ true) d.processes
  pub one_driver : OneDriver d.processes
  pub clocked : All (λ p. is_clocked p.kind ≡ true → (b : ℕ) → drives p.body b ≡ true → Contains d.registers b) d.processes
