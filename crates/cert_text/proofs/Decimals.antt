-- Whether a word spells a number.
use Rattle.std.proofs.Common.{◌≡◌, ℕ, ◌^◌, ◌<◌, true, false, eqb, List, Some, None, sym, ap, ◌∙◌, arith, lit<, ◌⊎◌, inl, inr, decimal}
use Rattle.std.specs.Str.{bytes_eq}
use Rattle.std.proofs.lemmas.Bool.{eq-eqb, ne_eqb, cases_eq, false_from_ne_true}
use Rattle.line_text.specs.Number.{number_of}
use Rattle.line_text.proofs.Laws.{some_is}
use Rattle.line_text.proofs.Numerals.{number_takes, number_again}
use Rattle.line_text.proofs.Words.{same_bytes, bytes_same}

-- the largest number of 64 bits
abbrev largest : ℕ
largest = 18446744073709551615

read_again : (w : List ℕ) (n : ℕ) → n < 2 ^ 64 → bytes_eq w (decimal n) ≡ true → number_of largest w ≡ Some n
read_again w n lt e = ap (number_of largest) (same_bytes w (decimal n) e) ∙ number_again largest n (lit< tt) (omega (arith, lt))

same_by : (w : List ℕ) (found n : ℕ) → n < 2 ^ 64 → number_of largest w ≡ Some found → (found ≡ n) ⊎ (found ≡ n → ⊥) → eqb found n ≡ bytes_eq w (decimal n)
same_by w found n lt e (inl h) =
    let spelled : w ≡ decimal n = (number_takes largest w found (lit< tt) e).0 ∙ ap decimal h in
    eq-eqb found n h ∙ sym (ap (λ (v : List ℕ). bytes_eq v (decimal n)) spelled ∙ bytes_same (decimal n))
same_by w found n lt e (inr h) =
    ne_eqb found n h ∙ sym (false_from_ne_true (bytes_eq w (decimal n)) (λ t. h (some_is found n (sym e ∙ read_again w n lt t))))

pub same_decimal : (w : List ℕ) (found n : ℕ) → n < 2 ^ 64 → number_of largest w ≡ Some found → eqb found n ≡ bytes_eq w (decimal n)
same_decimal w found n lt e = same_by w found n lt e (cases_eq found n)

none_some : (n : ℕ) → None ≡ Some n → ⊥
none_some n e = cc

pub not_decimal : (w : List ℕ) (n : ℕ) → n < 2 ^ 64 → number_of largest w ≡ None → false ≡ bytes_eq w (decimal n)
not_decimal w n lt e = sym (false_from_ne_true (bytes_eq w (decimal n)) (λ t. none_some n (sym e ∙ read_again w n lt t)))
