-- What the active reset of one process gives.
use Rattle.std.proofs.Common.{◌≡◌, ℕ, zero, suc, Bool, true, false, cond, not, List, [], ◌∷◌, refl, sym, ap, ◌∙◌, subst, get_or, length, ◌<◌, inl, inr, arith}
use Rattle.std.specs.Prelude.{Contains, Option, Some, None, All}
use Rattle.std.proofs.lemmas.Bool.{cases_Bool}
use Rattle.std.proofs.lemmas.List.{append-nil}
use Rattle.std.proofs.lemmas.List.Elements.{All-nil, All-cons}
use Rattle.design_core.specs.declared.flat.ProcKind.{ProcKind}
use Rattle.design_core.specs.declared.flat.ProcKind.TheVariants.{Comb, Clocked}
use Rattle.design_core.specs.declared.flat.Reset.{Reset}
use Rattle.design_core.specs.declared.flat.Process.{Process}
use Rattle.design_core.specs.declared.flat.Design.{Design}
use Rattle.bit_exprs.specs.Updates.{perform}
use Rattle.bit_exprs.specs.Values.{bit_at}
use Rattle.design_core.specs.Exec.{xor, exec}
use Rattle.design_core.specs.Drive.{drives}
use Rattle.design_core.specs.Settled.{is_clocked, is_active, reset_of, reset_updates}
use Rattle.design_core.specs.Resets.{IsResetBody, HasReset}
use Rattle.design_core.specs.Legality.{idle}
use Rattle.bit_exprs.proofs.Performing.{perform-append}
use Rattle.design_core.proofs.ResetLaws.{SameInputs, reset_updates_same, all_in}
use Rattle.event_order.specs.Cycles.{is_reset}
use Rattle.event_order.proofs.Updates.{OwnBits, updates_other}

-- a process with an active reset is clocked
pub reset_clocked : (kind : ProcKind) (v : List Bool) → is_active (reset_of kind) v ≡ true → is_clocked kind ≡ true
reset_clocked Comb v h = cc
reset_clocked (Clocked reset) v h = refl

at_level : (a b x : Bool) → not (xor a x) ≡ true → not (xor b x) ≡ true → a ≡ b
at_level true true x h k = refl
at_level false false x h k = refl
at_level true false true h k = cc
at_level true false false h k = cc
at_level false true true h k = cc
at_level false true false h k = cc

-- the design with one input, the reset, and one process
abbrev pub alone : Design → Reset → Process → Design
alone d r p = record {
  bits = d.bits;
  declared = d.declared;
  inputs = r.bit ∷ [];
  clock = d.clock;
  registers = d.registers;
  processes = p ∷ [];
  sites = d.sites;
}

only_one : (a b : ℕ) → Contains (a ∷ []) b → a ≡ b
only_one a b (zero, lt, e) = e
only_one a b (suc k, lt, e) = absurd (omega arith)

one_update : (p : Process) (v : List Bool) → is_active (reset_of p.kind) v ≡ true → reset_updates (p ∷ []) v ≡ (exec p.body v).updates
one_update p v on = append-nil (cond (is_active (reset_of p.kind) v) (exec p.body v).updates []) ∙ ap (λ x. cond x (exec p.body v).updates []) on

module _ (d : Design) (resets : All (λ p. HasReset d p) d.processes) where
  level_same : (o : Option Reset) (p : Process) (v w : List Bool) → Contains d.processes p → reset_of p.kind ≡ o → SameInputs d v w → is_active o v ≡ is_active o w
  level_same None p v w c e same = refl
  level_same (Some r) p v w c e same = ap (λ x. not (xor x r.active)) (same r.bit (all_in (HasReset d) d.processes resets p c r e).0)

  pub is_reset_same : (p : Process) (v w : List Bool) → Contains d.processes p → SameInputs d v w → is_reset p v ≡ is_reset p w
  is_reset_same p v w c same = level_same (reset_of p.kind) p v w c refl same

  alone_has : (p : Process) (r : Reset) → Contains d.processes p → reset_of p.kind ≡ Some r → HasReset (alone d r p) p
  alone_has p r c e q f =
      let same : r ≡ q = cc in
      subst (λ x. Contains (r.bit ∷ []) x.bit × IsResetBody x p.body) same ((zero, omega arith, refl), (all_in (HasReset d) d.processes resets p c r e).1)

  updates_at : (o : Option Reset) (p : Process) (v w : List Bool) → Contains d.processes p → reset_of p.kind ≡ o → is_active o v ≡ true → is_active o w ≡ true → (exec p.body v).updates ≡ (exec p.body w).updates
  updates_at None p v w c e on on' = cc
  updates_at (Some r) p v w c e on on' =
      let bit : bit_at v r.bit ≡ bit_at w r.bit = at_level (bit_at v r.bit) (bit_at w r.bit) r.active on on' in
      let same : SameInputs (alone d r p) v w = λ b inside. subst (λ a. bit_at v a ≡ bit_at w a) (only_one r.bit b inside) bit in
      let all : reset_updates (p ∷ []) v ≡ reset_updates (p ∷ []) w = reset_updates_same (alone d r p) (All-cons (HasReset (alone d r p)) p [] (alone_has p r c e) (All-nil (HasReset (alone d r p)))) v w same in
      let is : is_active (reset_of p.kind) v ≡ true = ap (λ x. is_active x v) e ∙ on in
      let is' : is_active (reset_of p.kind) w ≡ true = ap (λ x. is_active x w) e ∙ on' in
      sym (one_update p v is) ∙ all ∙ one_update p w is'

  -- from any two values at which a reset is active its process has the same updates
  pub updates_both : (p : Process) (v w : List Bool) → Contains d.processes p → is_reset p v ≡ true → is_reset p w ≡ true → (exec p.body v).updates ≡ (exec p.body w).updates
  updates_both p v w c on on' = updates_at (reset_of p.kind) p v w c refl on on'

  pub updates_same : (p : Process) (v w : List Bool) → Contains d.processes p → SameInputs d v w → is_reset p v ≡ true → (exec p.body v).updates ≡ (exec p.body w).updates
  updates_same p v w c same on = updates_both p v w c on (sym (is_reset_same p v w c same) ∙ on)

pub own_reset : (v : List Bool) → OwnBits (λ (p : Process). cond (is_reset p v) (exec p.body v).updates [])
own_reset v p w b h = elim (cases_Bool (is_reset p v)) [
  | inl on ↦ rw on (updates_other p.body v w b h)
  | inr off ↦ rw off refl
]

-- no clocked process of the list drives the bit
pub resets_none : (ps : List Process) (v w : List Bool) (b : ℕ) → ((j : ℕ) → j < length ps → is_clocked (get_or ps j idle).kind ≡ true → drives (get_or ps j idle).body b ≡ false) →
    bit_at (perform (reset_updates ps v) w) b ≡ bit_at w b
resets_none [] v w b h = refl
resets_none (p ∷ ps) v w b h =
    let own = cond (is_reset p v) (exec p.body v).updates [] in
    ap (λ x. bit_at x b) (perform-append own (reset_updates ps v) w)
    ∙ resets_none ps v (perform own w) b (λ j lt. h (suc j) (omega arith))
    ∙ elim (cases_Bool (is_reset p v)) [
      | inl on ↦ rw on (updates_other p.body v w b (h zero (omega arith) (reset_clocked p.kind v on)))
      | inr off ↦ rw off refl
    ]
