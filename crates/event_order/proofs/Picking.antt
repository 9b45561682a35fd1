-- The numbers of the flags that are up.
use Rattle.std.proofs.Common.{◌≡◌, ℕ, zero, suc, Bool, true, false, cond, List, [], ◌∷◌, refl, sym, ap, ◌∙◌, get_or, drop, length, ◌<◌, ◌+◌, ◌-◌, arith}
use Rattle.std.proofs.lemmas.List.{at_drop_more}
use Rattle.bit_exprs.specs.Values.{bit_at}
use Rattle.event_order.specs.Numbers.{numbers_from}

numbers_at : (flags : List Bool) (k : ℕ) → k < length flags →
    numbers_from k (drop k flags) ≡ cond (get_or flags k false) (k ∷ numbers_from (k + 1) (drop (k + 1) flags)) (numbers_from (k + 1) (drop (k + 1) flags))
numbers_at flags k lt = at_drop_more (numbers_from k) flags k false lt

numbers_up : (flags : List Bool) (k : ℕ) → k < length flags → get_or flags k false ≡ true → numbers_from k (drop k flags) ≡ k ∷ numbers_from (k + 1) (drop (k + 1) flags)
numbers_up flags k lt up = numbers_at flags k lt ∙ ap (λ g. cond g (k ∷ numbers_from (k + 1) (drop (k + 1) flags)) (numbers_from (k + 1) (drop (k + 1) flags))) up

numbers_down : (flags : List Bool) (k : ℕ) → k < length flags → get_or flags k false ≡ false → numbers_from k (drop k flags) ≡ numbers_from (k + 1) (drop (k + 1) flags)
numbers_down flags k lt down = numbers_at flags k lt ∙ ap (λ g. cond g (k ∷ numbers_from (k + 1) (drop (k + 1) flags)) (numbers_from (k + 1) (drop (k + 1) flags))) down

pub none_up : (k : ℕ) (flags : List Bool) → length (numbers_from k flags) ≡ 0 → (j : ℕ) → bit_at flags j ≡ false
none_up k [] none j = refl
none_up k (true ∷ flags) none j = absurd (omega arith)
none_up k (false ∷ flags) none zero = refl
none_up k (false ∷ flags) none (suc j) = none_up (k + 1) flags none j

-- each of them is the number of a flag that is up
pub each_up : (k : ℕ) (flags : List Bool) (place : ℕ) → place < length (numbers_from k flags) →
    (j : ℕ) × (get_or (numbers_from k flags) place 0 ≡ k + j) × (j < length flags) × (bit_at flags j ≡ true)
each_up k [] place lt = absurd (omega arith)
each_up k (true ∷ flags) zero lt = (zero, omega arith, omega arith, refl)
each_up k (true ∷ flags) (suc place) lt = let found = each_up (k + 1) flags place (omega arith) in (suc found.0, omega (arith, found.1), omega (arith, found.2), found.3)
each_up k (false ∷ flags) place lt = let found = each_up (k + 1) flags place lt in (suc found.0, omega (arith, found.1), omega (arith, found.2), found.3)

-- the place that was found, where some flag is up
pub found_up : (flags : List Bool) (place n k : ℕ) → n ≡ length (numbers_from 0 flags) → place < n → k ≡ get_or (numbers_from 0 flags) place 0 →
    (k < length flags) × (bit_at flags k ≡ true)
found_up flags place n k count lt is =
    let found = each_up 0 flags place (omega arith) in
    let same : k ≡ found.0 = omega (arith, found.1, is) in
    (rw same found.2, rw same found.3)

pub skip_up : (flags : List Bool) (k left left' total : ℕ) → k < length flags → get_or flags k false ≡ true → (left ≡ 0 → ⊥) → left' ≡ left - 1 →
    get_or (numbers_from k (drop k flags)) left 0 ≡ total → get_or (numbers_from (k + 1) (drop (k + 1) flags)) left' 0 ≡ total
skip_up flags k zero left' total lt up ne is h = absurd (ne refl)
skip_up flags k (suc left) left' total lt up ne is h =
    let same : left' ≡ left = omega arith in
    rw same (sym (ap (λ ns. get_or ns (suc left) 0) (numbers_up flags k lt up)) ∙ h)

pub skip_down : (flags : List Bool) (k left left' total : ℕ) → k < length flags → get_or flags k false ≡ false → left' ≡ left →
    get_or (numbers_from k (drop k flags)) left 0 ≡ total → get_or (numbers_from (k + 1) (drop (k + 1) flags)) left' 0 ≡ total
skip_down flags k left left' total lt down is h =
    rw is (sym (ap (λ ns. get_or ns left 0) (numbers_down flags k lt down)) ∙ h)
