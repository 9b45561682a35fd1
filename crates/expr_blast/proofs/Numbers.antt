-- Numbers that lists of bits spell.
use Rattle.std.proofs.Common.{◌≡◌, ℕ, zero, suc, ◌+◌, ◌-◌, ◌*◌, ◌/◌, ◌%◌, ◌^◌, ◌<◌, ◌≤◌, nat_eq, Bool, true, false, not, ◌&&◌, cond, List, [], ◌∷◌, ◌++◌, length, replicate, refl, sym, ap, ◌∙◌, arith, ◌⊎◌, inl, inr}
use Rattle.std.proofs.lemmas.Nat.{pow-add}
use Rattle.std.proofs.lemmas.Bool.{ne_eqb}
use Rattle.std.proofs.Math.Nat.{pow-suc}
use Rattle.word_core.specs.Words.{bit, number_of, signed_of, word_of, word_extend}
use Rattle.word_core.proofs.SignedLaws.{extend_low, extend_high}
use Rattle.word_core.proofs.WordLaws.{bit-lt, number_of-lt, same_test}
use Rattle.word_blast.proofs.OperatorLaws.{number_of-zeros}

-- ---- one list after another

append_step : (a n m p q r : ℕ) → r ≡ n + p * m → q ≡ p * 2 → a + 2 * r ≡ a + 2 * n + q * m
append_step a n m p q r er eq = rw (er, eq) (omega arith)

pub number_of-append : (xs ys : List Bool) → number_of (xs ++ ys) ≡ number_of xs + 2 ^ length xs * number_of ys
number_of-append [] ys = omega arith
number_of-append (x ∷ xs) ys = append_step (bit x) (number_of xs) (number_of ys) (2 ^ length xs) (2 ^ suc (length xs)) (number_of (xs ++ ys)) (number_of-append xs ys) (pow-suc 2 (length xs))

-- ---- a list that goes on with its top bit

number_of-ones : (n : ℕ) → number_of (replicate n true) + 1 ≡ 2 ^ n
number_of-ones zero = refl
number_of-ones (suc n) = omega (arith, number_of-ones n, pow-suc 2 n)

abbrev pub top_of : List Bool → Bool
top_of [] = false
top_of (b ∷ []) = b
top_of (b ∷ c ∷ bs) = top_of (c ∷ bs)

abbrev IsTop : ℕ → ℕ → Bool → Type 0
IsTop t a b = ((a < t) × (b ≡ false)) ⊎ ((t ≤ a) × (b ≡ true))

top_is : (bs : List Bool) (n : ℕ) → length bs ≡ suc n → IsTop (2 ^ n) (number_of bs) (top_of bs)
top_is [] n len = absurd (omega arith)
top_is (true ∷ []) n len = let n0 : n ≡ 0 = omega arith in rw n0 (inr (omega arith, refl))
top_is (false ∷ []) n len = let n0 : n ≡ 0 = omega arith in rw n0 (inl (omega arith, refl))
top_is (b ∷ c ∷ bs) zero len = absurd (omega arith)
top_is (b ∷ c ∷ bs) (suc n) len = by (top_is (c ∷ bs) n (omega arith))
  where
    by : IsTop (2 ^ n) (number_of (c ∷ bs)) (top_of (c ∷ bs)) → IsTop (2 ^ suc n) (bit b + 2 * number_of (c ∷ bs)) (top_of (c ∷ bs))
    by (inl h) = let lt = h.0 in inl (omega (arith, pow-suc 2 n, bit-lt b), h.1)
    by (inr h) = let le = h.0 in inr (omega (arith, pow-suc 2 n), h.1)

zeros_after : (bs : List Bool) (n : ℕ) → number_of (bs ++ replicate n false) ≡ number_of bs
zeros_after bs n = number_of-append bs (replicate n false) ∙ omega (arith, ap (λ m. 2 ^ length bs * m) (number_of-zeros n))

ones_step : (a p q r s : ℕ) → r + 1 ≡ q → a < p → s ≡ p * q → a + p * r ≡ s - 1 - (p - 1 - a)
ones_step a p q r s er lt es = rw (es, sym er) (omega arith)

ones_after : (bs : List Bool) (v n : ℕ) → v ≡ length bs + n → number_of (bs ++ replicate n true) ≡ 2 ^ v - 1 - (2 ^ length bs - 1 - number_of bs)
ones_after bs v n e =
    number_of-append bs (replicate n true)
    ∙ ones_step (number_of bs) (2 ^ length bs) (2 ^ n) (number_of (replicate n true)) (2 ^ v) (number_of-ones n) (number_of-lt bs) (ap (λ k. 2 ^ k) e ∙ pow-add 2 (length bs) n)

pub extended_number : (bs : List Bool) (v : ℕ) (signed : Bool) → 1 ≤ length bs → length bs ≤ v →
    number_of (bs ++ replicate (v - length bs) (cond signed (top_of bs) false)) ≡ word_extend (length bs) v signed (number_of bs)
extended_number bs v false some le = zeros_after bs (v - length bs)
extended_number bs v true some le = by (top_is bs (length bs - 1) (omega arith))
  where
    by : IsTop (2 ^ (length bs - 1)) (number_of bs) (top_of bs) → number_of (bs ++ replicate (v - length bs) (top_of bs)) ≡ word_of v (signed_of (length bs) (number_of bs))
    by (inl t) =
        ap (λ b. number_of (bs ++ replicate (v - length bs) b)) t.1 ∙ zeros_after bs (v - length bs)
        ∙ sym (extend_low (length bs) v (number_of bs) t.0 (number_of-lt bs) le)
    by (inr t) =
        ap (λ b. number_of (bs ++ replicate (v - length bs) b)) t.1 ∙ ones_after bs v (v - length bs) (omega arith)
        ∙ extend_high (length bs) v (number_of bs) (2 ^ v - 1) (2 ^ length bs - 1) t.0 (number_of-lt bs) le refl refl

-- ---- digit by digit

-- a number is another where the lowest digits and what is above them are the same
pub digit_same : (j n : ℕ) (b : Bool) → (cond (nat_eq (j % 2) 1) b (not b) && nat_eq (j / 2) n) ≡ nat_eq j (bit b + 2 * n)
digit_same j n b = by (j % 2) (j / 2) (omega arith) (omega arith) b
  where
    by : (r q : ℕ) → r < 2 → j ≡ r + 2 * q → (b : Bool) → (cond (nat_eq r 1) b (not b) && nat_eq q n) ≡ nat_eq j (bit b + 2 * n)
    by zero q lt e true = sym (ne_eqb j (1 + 2 * n) (λ h. omega arith))
    by zero q lt e false = same_test q n j (0 + 2 * n) (λ h. omega arith) (λ h. omega arith)
    by (suc zero) q lt e true = same_test q n j (1 + 2 * n) (λ h. omega arith) (λ h. omega arith)
    by (suc zero) q lt e false = sym (ne_eqb j (0 + 2 * n) (λ h. omega arith))
    by (suc (suc r)) q lt e b = absurd (omega arith)
