-- Updates, bit by bit.
use Rattle.std.proofs.Common.{◌≡◌, ℕ, Bool, false, cond, ◌==◌, List, [], ◌∷◌, refl, sym, ap, ◌∙◌, subst, set, length, ◌<◌, inl, inr}
use Rattle.std.proofs.lemmas.List.{get_or-set_same, get_or-set_other, length-set}
use Rattle.std.proofs.lemmas.Bool.{cases_eq, eq-eqb, ne_eqb}
use Rattle.bit_exprs.specs.Values.{bit_at}
use Rattle.bit_exprs.specs.Updates.{perform}
use Rattle.design_core.specs.Settled.{updated}

-- a bit of the values after the updates
pub bit_performed : (us : List (ℕ × Bool)) (v : List Bool) (b : ℕ) → b < length v → bit_at (perform us v) b ≡ updated us b (bit_at v b)
bit_performed [] v b lt = refl
bit_performed (u ∷ us) v b lt =
    bit_performed us (set v u.0 u.1) b (rw length-set lt) ∙ ap (updated us b) (elim (cases_eq u.0 b) [
      | inl e ↦ subst (λ a. bit_at (set v u.0 u.1) a ≡ cond (u.0 == a) u.1 (bit_at v a)) e
          (get_or-set_same v u.0 u.1 false (rw e lt) ∙ sym (ap (λ t. cond t u.1 (bit_at v u.0)) (eq-eqb u.0 u.0 refl)))
      | inr ne ↦ get_or-set_other v u.0 b u.1 false (λ e. ne (sym e)) ∙ sym (ap (λ t. cond t u.1 (bit_at v b)) (ne_eqb u.0 b ne))
    ])
