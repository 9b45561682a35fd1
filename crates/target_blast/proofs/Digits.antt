-- Bits of a number from some place on.
use Rattle.std.proofs.Common.{◌≡◌, ℕ, zero, suc, ◌+◌, ◌*◌, ◌/◌, ◌%◌, ◌^◌, ◌≤◌, nat_eq, Bool, true, false, List, [], ◌∷◌, length, map, take, drop, refl, sym, ap, ◌∙◌, arith}
use Rattle.std.proofs.lemmas.List.{drop-map, take-map, length-drop, length-map}
use Rattle.std.proofs.Math.Nat.{pow-suc, mul_comm, div-div-eq-div-mul, div-one, zero-div}
use Rattle.aig_core.specs.Graph.{Graph, value_of}
use Rattle.word_core.specs.Words.{bit, number_of, bits_of}
use Rattle.word_blast.specs.Words.{spelled, word_value}

half : (b : Bool) (n : ℕ) → (bit b + 2 * n) / 2 ≡ n
half true n = omega arith
half false n = omega arith

low : (b : Bool) (n : ℕ) → nat_eq ((bit b + 2 * n) % 2) 1 ≡ b
low true n = let e : (1 + 2 * n) % 2 ≡ 1 = omega arith in rw e refl
low false n = let e : (0 + 2 * n) % 2 ≡ 0 = omega arith in rw e refl

number_of-drop : (m : ℕ) (bs : List Bool) → number_of bs / 2 ^ m ≡ number_of (drop m bs)
number_of-drop zero bs = div-one (number_of bs)
number_of-drop (suc m) [] = zero-div (2 ^ suc m)
number_of-drop (suc m) (b ∷ bs) =
    let doubled : 2 ^ suc m ≡ 2 * 2 ^ m = pow-suc 2 m ∙ mul_comm (2 ^ m) 2 in
    ap (λ n. (bit b + 2 * number_of bs) / n) doubled ∙ sym (div-div-eq-div-mul (bit b + 2 * number_of bs) 2 (2 ^ m)) ∙ ap (λ n. n / 2 ^ m) (half b (number_of bs))
    ∙ number_of-drop m bs

bits_of-take : (n : ℕ) (bs : List Bool) → n ≤ length bs → bits_of n (number_of bs) ≡ take n bs
bits_of-take zero bs le = refl
bits_of-take (suc n) [] le = absurd (omega arith)
bits_of-take (suc n) (b ∷ bs) le = λ j. low b (number_of bs) j ∷ (ap (bits_of n) (half b (number_of bs)) ∙ bits_of-take n bs (omega arith)) j

-- the bits of a word's number from place m on are those of its literals
pub taken_bits : (g : Graph) (leaves : List Bool) (value : List ℕ) (n m : ℕ) → n + m ≤ length value →
    bits_of n (word_value g leaves value / 2 ^ m) ≡ spelled g leaves (take n (drop m value))
taken_bits g leaves value n m le =
    let v : ℕ → Bool = value_of g leaves in
    ap (bits_of n) (number_of-drop m (map v value) ∙ ap number_of (drop-map v m value))
    ∙ bits_of-take n (map v (drop m value)) (omega (arith, length-map (drop m value) v, length-drop m value)) ∙ take-map v n (drop m value)
