-- Rows of && and ||, operand by operand.
use Rattle.std.proofs.Common.{◌≡◌, ℕ, ◌+◌, ◌<◌, ◌≤◌, nat_eq, Bool, true, false, not, ◌&&◌, ◌||◌, cond, List, length, map, drop, get_or, refl, sym, ap, ◌∙◌}
use Rattle.std.proofs.lemmas.List.{drop_more, drop_all}
use Rattle.bit_exprs.specs.Values.{row_holds}

-- a row, after what is known of the operands before it
abbrev pub after : Bool → Bool → Bool → Bool
after and so_far rest = cond and (so_far && rest) (so_far || rest)

pub after_cons : (and so_far t rest : Bool) → after and so_far (cond and (t && rest) (t || rest)) ≡ after and (cond and (so_far && t) (so_far || t)) rest
after_cons true true t rest = refl
after_cons true false t rest = refl
after_cons false true t rest = refl
after_cons false false t rest = refl

pub after_first : (and rest : Bool) → after and and rest ≡ rest
after_first true rest = refl
after_first false rest = refl

pub after_last : (and so_far : Bool) → after and so_far and ≡ so_far
after_last true true = refl
after_last true false = refl
after_last false true = refl
after_last false false = refl

module _ {X : Type 0} (val : X → ℕ) (and : Bool) (items : List X) where
  pub row_more : (i : ℕ) (d x : X) (h r : Bool) (n : ℕ) (all : Bool) → i < length items → x ≡ get_or items i d → n ≡ val x → r ≡ cond and (h && not (nat_eq n 0)) (h || not (nat_eq n 0)) →
      after and h (row_holds and (map val (drop i items))) ≡ all → after and r (row_holds and (map val (drop (i + 1) items))) ≡ all
  row_more i d x h r n all lt ex en er so_far =
      let rest : Bool = row_holds and (map val (drop (i + 1) items)) in
      let value : n ≡ val (get_or items i d) = en ∙ ap val ex in
      ap (λ b. after and b (row_holds and (map val (drop (i + 1) items)))) er
      ∙ sym (after_cons and h (not (nat_eq n 0)) (row_holds and (map val (drop (i + 1) items))))
      ∙ ap (λ m. after and h (cond and (not (nat_eq m 0) && row_holds and (map val (drop (i + 1) items))) (not (nat_eq m 0) || row_holds and (map val (drop (i + 1) items))))) value
      ∙ sym (ap (λ xs. after and h (row_holds and (map val xs))) (drop_more items i d lt)) ∙ so_far

  pub row_done : (i : ℕ) (h all : Bool) → length items ≤ i → after and h (row_holds and (map val (drop i items))) ≡ all → h ≡ all
  row_done i h all past so_far = sym (after_last and h) ∙ sym (ap (λ xs. after and h (row_holds and (map val xs))) (drop_all i items past)) ∙ so_far
