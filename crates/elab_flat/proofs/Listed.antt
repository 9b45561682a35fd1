-- What is made of each of a list, one after another, and the bits of a number.
use Rattle.std.proofs.Common.{◌≡◌, ℕ, zero, suc, ◌+◌, ◌/◌, ◌%◌, ◌^◌, ◌<◌, ◌≤◌, nat_eq, bit_and, false, List, [], ◌∷◌, ◌++◌, length, get_or, take, Option, Some, sym, ap, ◌∙◌, arith}
use Rattle.std.specs.Prelude.{flat_map}
use Rattle.std.proofs.lemmas.List.{take_more, take_all, append-nil}
use Rattle.std.proofs.lemmas.Grind.{flat_map-append}
use Rattle.std.proofs.lemmas.Nat.{shr-shr, and_mask}
use Rattle.word_core.specs.Words.{bits_of}
use Rattle.elab_flat.specs.Bits.{bit_start}

module _ {X Y : Type 0} (f : X → List Y) (xs : List X) (k : ℕ) where
  pub each_more : (x : X) (made later : List Y) → x ≡ get_or xs k x → k < length xs → later ≡ made ++ f x → made ≡ flat_map f (take k xs) → later ≡ flat_map f (take (k + 1) xs)
  each_more x made later at lt grown so_far =
      grown ∙ ap (λ ys. ys ++ f x) so_far ∙ ap (λ ys. flat_map f (take k xs) ++ ys) (sym (append-nil (f x))) ∙ sym (flat_map-append f (take k xs) (x ∷ []))
      ∙ ap (flat_map f) (ap (λ y. take k xs ++ y ∷ []) at ∙ sym (take_more xs k x lt))

  pub each_done : (made : List Y) → length xs ≤ k → made ≡ flat_map f (take k xs) → made ≡ flat_map f xs
  each_done made past so_far = so_far ∙ ap (flat_map f) (take_all k xs past)

-- the bit at a place of a number
bit_read : (w a k : ℕ) → k < w → get_or (bits_of w a) k false ≡ nat_eq (a / 2 ^ k % 2) 1
bit_read zero a k lt = absurd (omega arith)
bit_read (suc w) a zero lt = let whole : a ≡ a / 2 ^ 0 = omega arith in ap (λ n. nat_eq (n % 2) 1) whole
bit_read (suc w) a (suc k) lt = bit_read w (a / 2) k (omega arith) ∙ ap (λ n. nat_eq (n % 2) 1) (shr-shr a 1 k ∙ ap (λ j. a / 2 ^ j) (omega arith))

pub start_bit_is : (w k : ℕ) (start : Option ℕ) (a : ℕ) → start ≡ Some a → k < w → Some (nat_eq (bit_and (a / 2 ^ k) 1) 1) ≡ bit_start w start k
start_bit_is w k start a is lt = ap (λ n. Some (nat_eq n 1)) (and_mask (a / 2 ^ k) 1) ∙ ap Some (sym (bit_read w a k lt)) ∙ ap (λ o. bit_start w o k) (sym is)
