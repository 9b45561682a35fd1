-- What an expression costs: a measure of the size of its circuit.
use Rattle.std.specs.Prelude.{ℕ, zero, suc, ◌+◌, ◌-◌, ◌*◌, ◌^◌, min, nat_lt, if◌then◌else◌, length}
use Rattle.std.specs.List.{sum_by}
use Rattle.bit_exprs.specs.declared.forms.Expr.{Expr, Row_of-Expr, end_of-Expr, more_of-Expr}
use Rattle.bit_exprs.specs.declared.forms.Expr.TheVariants.{Const, Read, Select', Unary', Binary', Choose', Logical'}
use Rattle.bit_exprs.specs.declared.forms.UnaryOp.{UnaryOp}
use Rattle.bit_exprs.specs.declared.forms.UnaryOp.TheVariants as one
use Rattle.bit_exprs.specs.declared.forms.BinaryOp.{BinaryOp}
use Rattle.bit_exprs.specs.declared.forms.BinaryOp.TheVariants.{Add, Sub, Mul, And, Or, Xor, Xnor, Equal, NotEqual, Less, LessEqual, Greater, GreaterEqual, Shl, Shr, Join}
use Rattle.bit_exprs.specs.declared.forms.Part.{Part}
use Rattle.bit_exprs.specs.declared.forms.Part.TheVariants as parts
use Rattle.bit_exprs.specs.declared.forms.Target.{Target}
use Rattle.bit_exprs.specs.Values.{width_of, operand_width}

-- or the greatest number of 64 bits, where it is less
abbrev pub capped : ℕ → ℕ
capped n = min n (2 ^ 64 - 1)

-- on a word of w bits
abbrev pub unary_cost : UnaryOp → ℕ → ℕ
unary_cost one.Not w = 0
unary_cost one.Neg w = 10 * w
unary_cost (one.Extend width signed) w = 0
unary_cost (one.Repeat count) w = 0
unary_cost one.All w = w
unary_cost one.NotAll w = w
unary_cost one.Any w = w
unary_cost one.NotAny w = w
unary_cost one.Odd w = 3 * w
unary_cost one.NotOdd w = 3 * w

-- of the r bits of a distance, from the one that moves by p on, how many move by less than the width w
abbrev pub stages : ℕ → ℕ → ℕ → ℕ
stages p w zero = 0
stages p w (suc r) = if nat_lt p w then suc (stages (2 * p) w r) else 0

-- on words of w and u bits
abbrev pub binary_cost : BinaryOp → ℕ → ℕ → ℕ
binary_cost Add w u = 10 * w
binary_cost Sub w u = 10 * w
binary_cost Mul w u = 11 * w * w
binary_cost And w u = w
binary_cost Or w u = w
binary_cost Xor w u = 3 * w
binary_cost Xnor w u = 3 * w
binary_cost Equal w u = 4 * w
binary_cost NotEqual w u = 4 * w
binary_cost Less w u = 10 * w
binary_cost LessEqual w u = 10 * w
binary_cost Greater w u = 10 * w
binary_cost GreaterEqual w u = 10 * w
binary_cost Shl w u = 3 * w * stages 1 w u + w + u
binary_cost Shr w u = 3 * w * stages 1 w u + w + u
binary_cost Join w u = 0

abbrev mutual
  pub cost_of : Expr → ℕ
  cost_of (Const word signed) = 0
  cost_of (Read bits) = 0
  cost_of (Select' vector window p index) = operand_cost index + window.count * length vector * (operand_width index + 2)
  cost_of (Unary' op p a) = operand_cost a + unary_cost op (operand_width a)
  cost_of (Binary' op p a q b) = operand_cost a + operand_cost b + binary_cost op (operand_width a) (operand_width b)
  cost_of (Choose' p test q a r b) = operand_cost test + operand_cost a + operand_cost b + (3 * operand_width a + operand_width test)
  cost_of (Logical' and chain shape all) = tested_of all

  pub operand_cost : {m : _} → Row_of-Expr m → ℕ
  operand_cost end_of-Expr = 0
  operand_cost (more_of-Expr e rest) = cost_of e

  -- each operand of the row is made and tested
  pub tested_of : {m : _} → Row_of-Expr m → ℕ
  tested_of end_of-Expr = 0
  tested_of (more_of-Expr e rest) = cost_of e + (width_of e + 1) + tested_of rest

-- a write with an index costs its index and, for each place selected and bit of the vector, the width of the index and 4
abbrev pub part_cost : Part → ℕ
part_cost (parts.Bits bits) = 0
part_cost (parts.Select vector window index) = cost_of index + window.count * length vector * (width_of index + 4)
part_cost (parts.Outside count) = 0

abbrev pub target_cost : Target → ℕ
target_cost t = sum_by part_cost t.parts
