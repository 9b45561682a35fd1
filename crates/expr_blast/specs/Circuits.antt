-- The circuit of an expression: the gates that it makes, in the order in which they are made, since a certificate cites their numbers, and the literals of its word.
-- A word is a list of literals, the least significant first. The circuits of the operators are `word_blast`'s.
use Rattle.std.specs.Prelude.{ℕ, zero, suc, ◌-◌, ◌/◌, ◌%◌, ◌==◌, Bool, cond, ◌&&◌, List, [], ◌∷◌, ◌++◌, length, map, Option, Some, None, get_or, replicate}
use Rattle.bit_exprs.specs.declared.forms.Expr.{Expr, Row_of-Expr, end_of-Expr, more_of-Expr}
use Rattle.bit_exprs.specs.declared.forms.Expr.TheVariants.{Const, Read, Select', Unary', Binary', Choose', Logical'}
use Rattle.bit_exprs.specs.declared.forms.UnaryOp.{UnaryOp}
use Rattle.bit_exprs.specs.declared.forms.UnaryOp.TheVariants as one
use Rattle.bit_exprs.specs.declared.forms.BinaryOp.{BinaryOp}
use Rattle.bit_exprs.specs.declared.forms.BinaryOp.TheVariants.{Add, Sub, Mul, And, Or, Xor, Xnor, Equal, NotEqual, Less, LessEqual, Greater, GreaterEqual, Shl, Shr, Join}
use Rattle.bit_exprs.specs.declared.forms.Window.{Window}
use Rattle.bit_exprs.specs.Values.{operand_sign}
use Rattle.bit_exprs.specs.Indices.{up_of, down_of, code_of}
use Rattle.word_core.specs.Words.{bits_of}
use Rattle.aig_core.specs.Graph.{Graph, negation, and_of}
use Rattle.word_blast.specs.Bits.{or_of}
use Rattle.word_blast.specs.Words.{one_bit, top_literal, circuit_not, circuit_and, circuit_or, circuit_xor, circuit_xnor, circuit_mux, circuit_any, circuit_all, circuit_odd, circuit_equal, circuit_less, circuit_add, circuit_sub, circuit_neg, circuit_mul, circuit_shl, circuit_shr}

-- the literal of a constant bit
abbrev pub constant : Bool → ℕ
constant b = cond b 1 0

-- the literal of a bit, by its number
abbrev pub literal_at : List ℕ → ℕ → ℕ
literal_at bits b = get_or bits b 0

-- ---- operators

-- each literal negated
abbrev pub turned : Graph × List ℕ → Graph × List ℕ
turned r = circuit_not r.0 r.1

-- brought to a width that is not narrower, by the sign's literal or by 0
abbrev pub extended : ℕ → Bool → List ℕ → List ℕ
extended width signed xs = xs ++ replicate (width - length xs) (cond signed (top_literal xs) 0)

-- so many times side by side
abbrev pub copies : ℕ → List ℕ → List ℕ
copies zero xs = []
copies (suc n) xs = xs ++ copies n xs

abbrev pub unary_of : UnaryOp → Graph → List ℕ → Graph × List ℕ
unary_of one.Not g xs = circuit_not g xs
unary_of one.Neg g xs = circuit_neg g xs
unary_of (one.Extend width signed) g xs = (g, extended width signed xs)
unary_of (one.Repeat count) g xs = (g, copies count xs)
unary_of one.All g xs = one_bit (circuit_all g xs)
unary_of one.NotAll g xs = turned (one_bit (circuit_all g xs))
unary_of one.Any g xs = one_bit (circuit_any g xs)
unary_of one.NotAny g xs = turned (one_bit (circuit_any g xs))
unary_of one.Odd g xs = one_bit (circuit_odd g xs)
unary_of one.NotOdd g xs = turned (one_bit (circuit_odd g xs))

-- the order is that of signed values where both operands are signed
abbrev pub binary_of : BinaryOp → Bool → Graph → List ℕ → List ℕ → Graph × List ℕ
binary_of Add signed g xs ys = circuit_add g xs ys
binary_of Sub signed g xs ys = circuit_sub g xs ys
binary_of Mul signed g xs ys = circuit_mul g xs ys
binary_of And signed g xs ys = circuit_and g xs ys
binary_of Or signed g xs ys = circuit_or g xs ys
binary_of Xor signed g xs ys = circuit_xor g xs ys
binary_of Xnor signed g xs ys = circuit_xnor g xs ys
binary_of Equal signed g xs ys = one_bit (circuit_equal g xs ys)
binary_of NotEqual signed g xs ys = turned (one_bit (circuit_equal g xs ys))
binary_of Less signed g xs ys = one_bit (circuit_less g signed xs ys)
binary_of LessEqual signed g xs ys = turned (one_bit (circuit_less g signed ys xs))
binary_of Greater signed g xs ys = one_bit (circuit_less g signed ys xs)
binary_of GreaterEqual signed g xs ys = turned (one_bit (circuit_less g signed xs ys))
binary_of Shl signed g xs ys = circuit_shl g xs ys
binary_of Shr signed g xs ys = circuit_shr g xs ys
binary_of Join signed g xs ys = (g, ys ++ xs)

-- ---- rows

-- a test more of a row of && or of ||
abbrev pub logic_of : Bool → Graph → ℕ → ℕ → Graph × ℕ
logic_of and g so_far x = cond and (and_of g so_far x) (or_of g so_far x)

-- an operand more, which is tested first
abbrev pub operand_step : Bool → ℕ → Graph → List ℕ → Graph × ℕ
operand_step and so_far g xs =
    let t = circuit_any g xs in
    logic_of and t.0 so_far t.1

-- ---- words equal to a number

-- each literal, negated where the number's bit is 0
abbrev pub matched : List ℕ → ℕ → List ℕ
matched [] j = []
matched (x ∷ xs) j = cond (j % 2 == 1) x (negation x) ∷ matched xs (j / 2)

-- whether the word is the number, which fits into it; no word is, where there is none
abbrev pub equal_to : Graph → List ℕ → Option ℕ → Graph × ℕ
equal_to g xs None = (g, 0)
equal_to g xs (Some j) = circuit_all g (matched xs j)

-- ---- selects

-- whether the index, a word, puts bit k of what is selected at place p
abbrev pub place_of : Window → Bool → List ℕ → ℕ → ℕ → Graph → Graph × ℕ
place_of window signed index k p g = equal_to g index (code_of (length index) signed (up_of window k p) (down_of window k p))

-- e, or the literal x where the index names its place
abbrev pub with_place : Graph → ℕ → ℕ → ℕ → Graph × ℕ
with_place g e here x =
    let both = and_of g here x in
    or_of both.0 e both.1

-- e, or bit k of what is selected of the literals, the first of which is at place p
unfoldable pub bit_from : Window → Bool → List ℕ → ℕ → Graph → ℕ → ℕ → List ℕ → Graph × ℕ
bit_from window signed index k g e p [] = (g, e)
bit_from window signed index k g e p (x ∷ xs) =
    let here = place_of window signed index k p g in
    let more = with_place here.0 e here.1 x in
    bit_from window signed index k more.0 more.1 (suc p) xs

-- n bits of what is selected, from bit k on
unfoldable pub select_from : Window → Bool → List ℕ → List ℕ → Graph → ℕ → ℕ → Graph × List ℕ
select_from window signed index vector g k zero = (g, [])
select_from window signed index vector g k (suc n) =
    let x = bit_from window signed index k g 0 0 vector in
    let rest = select_from window signed index vector x.0 (suc k) n in
    (rest.0, x.1 ∷ rest.1)

-- ---- expressions

abbrev mutual
  -- The word of an expression, from the literals of the bits by number. Operands are made from the left; of a ?:, the condition and its test are made before the arms.
  pub word_of : Expr → Graph → List ℕ → Graph × List ℕ
  word_of (Const word signed) g bits = (g, map constant (bits_of word.width word.bits))
  word_of (Read from) g bits = (g, map (literal_at bits) from)
  word_of (Select' vector window p index) g bits =
      let at = operand_of index g bits in
      select_from window (operand_sign index) at.1 (map (literal_at bits) vector) at.0 0 window.count
  word_of (Unary' op p a) g bits =
      let x = operand_of a g bits in
      unary_of op x.0 x.1
  word_of (Binary' op p a q b) g bits =
      let x = operand_of a g bits in
      let y = operand_of b x.0 bits in
      binary_of op (operand_sign a && operand_sign b) y.0 x.1 y.1
  word_of (Choose' p test q a r b) g bits =
      let c = operand_of test g bits in
      let t = circuit_any c.0 c.1 in
      let x = operand_of a t.0 bits in
      let y = operand_of b x.0 bits in
      circuit_mux y.0 t.1 x.1 y.1
  word_of (Logical' and chain shape all) g bits = one_bit (row_of all and g (constant and) bits)

  pub operand_of : {m : _} → Row_of-Expr m → Graph → List ℕ → Graph × List ℕ
  operand_of end_of-Expr g bits = (g, [])
  operand_of (more_of-Expr e rest) g bits = word_of e g bits

  -- the row, from what the operands before it make: each operand is made, tested and joined before the next
  pub row_of : {m : _} → Row_of-Expr m → Bool → Graph → ℕ → List ℕ → Graph × ℕ
  row_of end_of-Expr and g so_far bits = (g, so_far)
  row_of (more_of-Expr e rest) and g so_far bits =
      let x = word_of e g bits in
      let s = operand_step and so_far x.0 x.1 in
      row_of rest and s.0 s.1 bits

-- whether an expression isn't 0
abbrev pub test_of : Expr → Graph → List ℕ → Graph × ℕ
test_of e g bits =
    let x = word_of e g bits in
    circuit_any x.0 x.1
