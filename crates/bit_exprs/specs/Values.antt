-- The width, the sign and the value of an expression (IEEE 1364-2001 clauses 4.1 to 4.5).
use Rattle.std.specs.Prelude.{ℕ, zero, suc, ◌+◌, ◌-◌, ◌==◌, Bool, false, not, cond, ◌&&◌, ◌||◌, if◌then◌else◌, List, [], ◌∷◌, length, map, get_or, ℤ, pos, ◌-ℤ◌}
use Rattle.std.specs.Ordering.{int_eq}
use Rattle.word_core.specs.Words.{bit, number_of, signed_of}
use Rattle.bit_exprs.specs.declared.forms.Expr.{Expr, Row_of-Expr, end_of-Expr, more_of-Expr}
use Rattle.bit_exprs.specs.declared.forms.Expr.TheVariants.{Const, Read, Select', Unary', Binary', Choose', Logical'}
use Rattle.bit_exprs.specs.declared.forms.Window.{Window}
use Rattle.bit_exprs.specs.Operators.{unary_width, unary_sign, unary_value, binary_width, binary_sign, binary_value}

-- the value of a bit
abbrev pub bit_at : List Bool → ℕ → Bool
bit_at v b = get_or v b false

-- ---- width and sign

abbrev mutual
  -- an operand stands in a row of its own
  pub width_of : Expr → ℕ
  width_of (Const word signed) = word.width
  width_of (Read bits) = length bits
  width_of (Select' vector window p index) = window.count
  width_of (Unary' op p a) = unary_width op (operand_width a)
  width_of (Binary' op p a q b) = binary_width op (operand_width a) (operand_width b)
  width_of (Choose' p test q a r b) = operand_width a
  width_of (Logical' and chain shape all) = 1

  pub operand_width : {m : _} → Row_of-Expr m → ℕ
  operand_width end_of-Expr = 0
  operand_width (more_of-Expr e rest) = width_of e

abbrev mutual
  pub sign_of : Expr → Bool
  sign_of (Const word signed) = signed
  sign_of (Read bits) = false
  sign_of (Select' vector window p index) = false
  sign_of (Unary' op p a) = unary_sign op (operand_sign a)
  sign_of (Binary' op p a q b) = binary_sign op (operand_sign a) (operand_sign b)
  sign_of (Choose' p test q a r b) = operand_sign a && operand_sign b
  sign_of (Logical' and chain shape all) = false

  pub operand_sign : {m : _} → Row_of-Expr m → Bool
  operand_sign end_of-Expr = false
  operand_sign (more_of-Expr e rest) = sign_of e

-- ---- selects

-- The index at which bit k of what is selected is the vector's bit at place p. With n the count: place p has the index right + p, or right - p where
-- the indices rise. Bit k of [b +: n] has the index b + k, or b + n - 1 - k where they rise; bit k of [b -: n] has b - (n - 1) + k, or b - k.
abbrev pub index_of : Window → ℕ → ℕ → ℤ
index_of window k p =
    cond window.rising
    (cond window.down (pos (window.right + k) -ℤ pos p) (pos (window.right + k) -ℤ pos (p + (window.count - 1))))
    (cond window.down (pos (window.right + p + (window.count - 1)) -ℤ pos k) (pos (window.right + p) -ℤ pos k))

-- the word a of w bits, as an index, is z
abbrev pub is_index : ℕ → Bool → ℕ → ℤ → Bool
is_index w signed a z = int_eq (if signed then signed_of w a else pos a) z

-- the bit at the place, from p on, for which the test holds, or 0
abbrev pub bit_where : (ℕ → Bool) → ℕ → List Bool → Bool
bit_where test p [] = false
bit_where test p (b ∷ bs) = (test p && b) || bit_where test (suc p) bs

-- the values of a function from k on
abbrev pub listed : {X : Type 0} → (ℕ → X) → ℕ → ℕ → List X
listed f k zero = []
listed f k (suc n) = f k ∷ listed f (suc k) n

-- what is selected of a vector's bits by the index a, a word of w bits; what lies outside reads as 0
abbrev pub selected : Window → List Bool → ℕ → Bool → ℕ → ℕ
selected window bits w signed a =
    number_of (listed (λ k. bit_where (λ p. is_index w signed a (index_of window k p)) 0 bits) 0 window.count)

-- ---- values

-- a row of && holds where no operand is 0, one of || where some operand isn't
abbrev pub row_holds : Bool → List ℕ → Bool
row_holds and [] = and
row_holds and (a ∷ rest) = cond and (not (a == 0) && row_holds and rest) (not (a == 0) || row_holds and rest)

abbrev mutual
  -- the value under values of the bits, a number below 2 to the width
  pub value_of : Expr → List Bool → ℕ
  value_of (Const word signed) v = word.bits
  value_of (Read bits) v = number_of (map (bit_at v) bits)
  value_of (Select' vector window p index) v = selected window (map (bit_at v) vector) (operand_width index) (operand_sign index) (operand_value index v)
  value_of (Unary' op p a) v = unary_value op (operand_width a) (operand_value a v)
  value_of (Binary' op p a q b) v = binary_value op (operand_sign a && operand_sign b) (operand_width a) (operand_width b) (operand_value a v) (operand_value b v)
  value_of (Choose' p test q a r b) v = cond (operand_value test v == 0) (operand_value b v) (operand_value a v)
  value_of (Logical' and chain shape all) v = bit (row_holds and (values_of all v))

  pub operand_value : {m : _} → Row_of-Expr m → List Bool → ℕ
  operand_value end_of-Expr v = 0
  operand_value (more_of-Expr e rest) v = value_of e v

  pub values_of : {m : _} → Row_of-Expr m → List Bool → List ℕ
  values_of end_of-Expr v = []
  values_of (more_of-Expr e rest) v = value_of e v ∷ values_of rest v
