-- Copying bits, and writing by way of a copy.
use Rattle.std.proofs.Common.{◌≡◌, ℕ, ◌+◌, ◌<◌, ◌≤◌, nat_eq, Bool, true, false, ◌||◌, List, [], ◌∷◌, ◌++◌, length, map, drop, get_or, set, refl, sym, ap, ◌∙◌, subst, inl, inr, arith}
use Rattle.std.specs.Prelude.{flat_map}
use Rattle.std.proofs.lemmas.List.{drop_more, drop_all, at_drop_more, ext_get_or, get_or-set_same, length-set}
use Rattle.std.proofs.lemmas.Bool.{cases_Bool, eqb-true}
use Rattle.bit_exprs.specs.declared.forms.Part.{Part}
use Rattle.bit_exprs.specs.Values.{bit_at}
use Rattle.bit_exprs.specs.Named.{among, part_bits}
use Rattle.bit_exprs.specs.Updates.{written, perform}
use Rattle.bit_exprs.proofs.Performing.{length-perform, perform-append, gives, performed_other, performed_both}

or_none : (a : Bool) → a || false ≡ true → a ≡ true
or_none true h = refl
or_none false h = h

-- each of the bits as the function says
abbrev pub copied : (ℕ → Bool) → List ℕ → List Bool → List Bool
copied f bits out = perform (written bits (map f bits)) out

-- the bits of the parts from i on
abbrev pub left_bits : List Part → ℕ → List ℕ
left_bits parts i = flat_map part_bits (drop i parts)

module _ (f : ℕ → Bool) where
  written-map : (a b : List ℕ) → written (a ++ b) (map f (a ++ b)) ≡ written a (map f a) ++ written b (map f b)
  written-map [] b = refl
  written-map (x ∷ a) b = ap (λ us. (x, f x) ∷ us) (written-map a b)

  pub copy_more : (bits : List ℕ) (i : ℕ) (out total : List Bool) → i < length bits → copied f (drop i bits) out ≡ total →
      copied f (drop (i + 1) bits) (set out (get_or bits i 0) (f (get_or bits i 0))) ≡ total
  copy_more bits i out total lt so_far = sym (ap (λ bs. copied f bs out) (drop_more bits i 0 lt)) ∙ so_far

  pub copy_done : (bits : List ℕ) (i : ℕ) (out total : List Bool) → length bits ≤ i → copied f (drop i bits) out ≡ total → out ≡ total
  copy_done bits i out total past so_far = sym (ap (λ bs. copied f bs out) (drop_all i bits past)) ∙ so_far

  pub copy_part : (parts : List Part) (i : ℕ) (p : Part) (bits : List ℕ) (out out' total : List Bool) → i < length parts → p ≡ get_or parts i p → bits ≡ part_bits p → out' ≡ copied f bits out →
      copied f (left_bits parts i) out ≡ total → copied f (left_bits parts (i + 1)) out' ≡ total
  copy_part parts i p bits out out' total lt is eb e so_far =
      ap (copied f (left_bits parts (i + 1))) (e ∙ ap (λ bs. copied f bs out) eb)
      ∙ sym (perform-append (written (part_bits p) (map f (part_bits p))) (written (left_bits parts (i + 1)) (map f (left_bits parts (i + 1)))) out)
      ∙ ap (λ us. perform us out) (sym (written-map (part_bits p) (left_bits parts (i + 1))))
      ∙ ap (λ q. copied f (part_bits q ++ left_bits parts (i + 1)) out) is
      ∙ sym (at_drop_more (λ ps. copied f (flat_map part_bits ps) out) parts i p lt) ∙ so_far

  pub copy_last : (parts : List Part) (i : ℕ) (out total : List Bool) → length parts ≤ i → copied f (left_bits parts i) out ≡ total → out ≡ total
  copy_last parts i out total past so_far = sym (ap (λ ps. copied f (flat_map part_bits ps) out) (drop_all i parts past)) ∙ so_far

  -- ---- bit by bit

  gives_copied : (bits : List ℕ) (b : ℕ) → gives (written bits (map f bits)) b ≡ among bits b
  gives_copied [] b = refl
  gives_copied (a ∷ bits) b = ap (λ x. nat_eq a b || x) (gives_copied bits b)

  copied_other : (bits : List ℕ) (v : List Bool) (b : ℕ) → among bits b ≡ false → bit_at (copied f bits v) b ≡ bit_at v b
  copied_other bits v b h = performed_other (written bits (map f bits)) v b (gives_copied bits b ∙ h)

  copied_here : (bits : List ℕ) (v : List Bool) (b : ℕ) → b < length v → among bits b ≡ true → bit_at (copied f bits v) b ≡ f b
  copied_here [] v b lt h = cc
  copied_here (a ∷ bits) v b lt h = elim (cases_Bool (among bits b)) [
    | inl later ↦ copied_here bits (set v a (f a)) b (rw length-set lt) later
    | inr last ↦
        let same : a ≡ b = eqb-true a b (or_none (nat_eq a b) (rw last at h)) in
        copied_other bits (set v a (f a)) b last ∙ subst (λ c. bit_at (set v a (f a)) c ≡ f c) same (get_or-set_same v a (f a) false (rw same lt))
  ]

-- updates of some bits, performed on a copy of these bits and copied back
module _ (bits : List ℕ) (us : List (ℕ × Bool)) (s v : List Bool) (len : length s ≡ length v) (named : (b : ℕ) → among bits b ≡ false → gives us b ≡ false) where
  abbrev pub back : List Bool
  back = copied (bit_at (perform us (copied (bit_at v) bits s))) bits v

  each : (b : ℕ) → b < length v → bit_at back b ≡ bit_at (perform us v) b
  each b lt = elim (cases_Bool (among bits b)) [
    | inl on ↦
        copied_here (bit_at (perform us (copied (bit_at v) bits s))) bits v b lt on
        ∙ performed_both us (copied (bit_at v) bits s) v b (length-perform (written bits (map (bit_at v) bits)) s ∙ len) (λ _. copied_here (bit_at v) bits s b (omega (arith, len)) on)
    | inr off ↦ copied_other (bit_at (perform us (copied (bit_at v) bits s))) bits v b off ∙ sym (performed_other us v b (named b off))
  ]

  pub by_way : back ≡ perform us v
  by_way =
      let long : length back ≡ length v = length-perform (written bits (map (bit_at (perform us (copied (bit_at v) bits s))) bits)) v in
      ext_get_or false back (perform us v) (long ∙ sym (length-perform us v)) (λ b lt. each b (omega (arith, long)))
