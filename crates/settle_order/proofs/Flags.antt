-- Flags that go up.
use Rattle.std.proofs.Common.{◌≡◌, ℕ, ◌+◌, ◌<◌, ◌⊎◌, inl, inr, zero, suc, Bool, true, false, cond, List, [], ◌∷◌, length, get_or, replicate, set, sym, ap, ◌∙◌, arith}
use Rattle.std.specs.List.{sum_by}
use Rattle.std.proofs.lemmas.Bool.{cases_eq, true≢false}
use Rattle.std.proofs.lemmas.List.{get_or-set_same, get_or-set_other, get_or-replicate, length-replicate}
use Rattle.std.proofs.lemmas.List.Sums.{sum_by-set}
use Rattle.settle_order.specs.Sweeping.{on, down}

pub on_within : (flags : List Bool) (n : ℕ) → on flags n ≡ true → n < length flags
on_within [] n e = absurd (true≢false (sym e))
on_within (b ∷ flags) zero e = omega arith
on_within (b ∷ flags) (suc n) e = omega (arith, on_within flags n e)

pub on_set : (flags : List Bool) (k n : ℕ) → k < length flags → on flags n ≡ true → on (set flags k true) n ≡ true
on_set flags k n h e = elim (cases_eq n k) [
  | inl q ↦ rw q (get_or-set_same flags k true false h)
  | inr ne ↦ get_or-set_other flags k n true false ne ∙ e
]

pub on_set_cases : (flags : List Bool) (k n : ℕ) → on (set flags k true) n ≡ true → (n ≡ k) ⊎ (on flags n ≡ true)
on_set_cases flags k n e = elim (cases_eq n k) [
  | inl q ↦ inl q
  | inr ne ↦ inr (sym (get_or-set_other flags k n true false ne) ∙ e)
]

pub off_before : (flags : List Bool) (k n : ℕ) → k < length flags → on (set flags k true) n ≡ false → on flags n ≡ false
off_before flags k n h e = elim (cases_eq n k) [
  | inl q ↦ absurd (true≢false (sym (rw q (get_or-set_same flags k true false h)) ∙ e))
  | inr ne ↦ sym (get_or-set_other flags k n true false ne) ∙ e
]

pub none_on : (count n : ℕ) → on (replicate count false) n ≡ true → ⊥
none_on count n e =
    let within : n < count = omega (arith, on_within (replicate count false) n e, length-replicate count false) in
    true≢false (sym e ∙ get_or-replicate count n false false within)

pub down_set : (flags : List Bool) (k : ℕ) → k < length flags → on flags k ≡ false → down (set flags k true) + 1 ≡ down flags
down_set flags k h off =
    let sum : sum_by (λ (b : Bool). cond b 0 1) (set flags k true) + cond {A = ℕ} (get_or flags k false) 0 1 ≡ sum_by (λ (b : Bool). cond b 0 1) flags + 0 = sum_by-set (λ (b : Bool). cond b 0 1) flags k true false h in
    let one : cond {A = ℕ} (get_or flags k false) 0 1 ≡ 1 = ap (λ (b : Bool). cond {A = ℕ} b 0 1) off in
    omega (arith, sum, one)
