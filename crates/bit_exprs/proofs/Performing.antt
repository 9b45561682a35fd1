-- Updates, performed in order.
use Rattle.std.proofs.Common.{◌≡◌, ℕ, Bool, false, ◌||◌, nat_eq, List, [], ◌∷◌, ◌++◌, refl, sym, ◌∙◌, subst, set, length, ◌<◌, ◌≤◌, ◌≢◌, ◌⊎◌, inl, inr, arith}
use Rattle.std.proofs.lemmas.List.{get_or-set_same, get_or-set_other, length-set, get_or_past}
use Rattle.std.proofs.lemmas.Bool.{cases_eq, cases_lt, ne_eqb, eqb-false, or_parts, or_from}
use Rattle.bit_exprs.specs.Values.{bit_at}
use Rattle.bit_exprs.specs.Updates.{perform}

pub length-perform : (us : List (ℕ × Bool)) (v : List Bool) → length (perform us v) ≡ length v
length-perform [] v = refl
length-perform (u ∷ us) v = length-perform us _ ∙ length-set v u.0 u.1

pub perform-append : (a b : List (ℕ × Bool)) (v : List Bool) → perform (a ++ b) v ≡ perform b (perform a v)
perform-append [] b v = refl
perform-append (u ∷ us) b v = perform-append us b _

-- some update is of bit b
abbrev pub gives : List (ℕ × Bool) → ℕ → Bool
gives [] b = false
gives (u ∷ us) b = nat_eq u.0 b || gives us b

-- a bit that isn't given keeps its value
pub performed_other : (us : List (ℕ × Bool)) (v : List Bool) (b : ℕ) → gives us b ≡ false → bit_at (perform us v) b ≡ bit_at v b
performed_other [] v b h = refl
performed_other (u ∷ us) v b h =
    let parts = or_parts (nat_eq u.0 b) (gives us b) h in
    performed_other us (set v u.0 u.1) b parts.1 ∙ get_or-set_other v u.0 b u.1 false (λ e. eqb-false u.0 b parts.0 (sym e))

set_both : (v w : List Bool) (t b : ℕ) (x : Bool) → length v ≡ length w → (t ≢ b → bit_at v b ≡ bit_at w b) → bit_at (set v t x) b ≡ bit_at (set w t x) b
set_both v w t b x len h = elim (cases_eq t b) [
  | inl e ↦ subst (λ a. bit_at (set v t x) a ≡ bit_at (set w t x) a) e (at (cases_lt t (length v)))
  | inr ne ↦ get_or-set_other v t b x false (λ e. ne (sym e)) ∙ h ne ∙ sym (get_or-set_other w t b x false (λ e. ne (sym e)))
]
  where
    at : (t < length v) ⊎ (length v ≤ t) → bit_at (set v t x) t ≡ bit_at (set w t x) t
    at (inl lt) = get_or-set_same v t x false lt ∙ sym (get_or-set_same w t x false (omega arith))
    at (inr le) = get_or_past (set v t x) t false (omega (arith, length-set v t x)) ∙ sym (get_or_past (set w t x) t false (omega (arith, length-set w t x)))

-- the same updates over values that agree on the bit, unless it is given
pub performed_both : (us : List (ℕ × Bool)) (v w : List Bool) (b : ℕ) → length v ≡ length w → (gives us b ≡ false → bit_at v b ≡ bit_at w b) →
    bit_at (perform us v) b ≡ bit_at (perform us w) b
performed_both [] v w b len h = h refl
performed_both (u ∷ us) v w b len h =
    performed_both us (set v u.0 u.1) (set w u.0 u.1) b (length-set v u.0 u.1 ∙ len ∙ sym (length-set w u.0 u.1))
    (λ no. set_both v w u.0 b u.1 len (λ ne. h (or_from (nat_eq u.0 b) (gives us b) (ne_eqb u.0 b ne) no)))
