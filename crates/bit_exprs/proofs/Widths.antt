-- A formed expression has at least one bit, and at most 128.
use Rattle.std.proofs.Common.{ℕ, ◌≤◌, arith}
use Rattle.std.proofs.Math.Nat.{le-mul_of_pos_right}
use Rattle.bit_exprs.specs.declared.forms.Expr.{Expr, Row_of-Expr, end_of-Expr, more_of-Expr}
use Rattle.bit_exprs.specs.declared.forms.Expr.TheVariants.{Const, Read, Select', Unary', Binary', Choose', Logical'}
use Rattle.bit_exprs.specs.declared.forms.UnaryOp.{UnaryOp}
use Rattle.bit_exprs.specs.declared.forms.UnaryOp.TheVariants as one
use Rattle.bit_exprs.specs.declared.forms.BinaryOp.{BinaryOp}
use Rattle.bit_exprs.specs.declared.forms.BinaryOp.TheVariants.{Add, Sub, Mul, And, Or, Xor, Xnor, Equal, NotEqual, Less, LessEqual, Greater, GreaterEqual, Shl, Shr, Join}
use Rattle.bit_exprs.specs.Operators.{unary_width, binary_width}
use Rattle.bit_exprs.specs.Values.{width_of, operand_width}
use Rattle.bit_exprs.specs.Formed.{Takes, TakesBoth, IsFormed, OperandFormed}

unary_some : (op : UnaryOp) (w : ℕ) → 1 ≤ w → Takes op w → 1 ≤ unary_width op w
unary_some one.Not w h t = h
unary_some one.Neg w h t = h
unary_some (one.Extend width signed) w h t = omega (arith, t.0)
unary_some (one.Repeat count) w h t = omega (arith, t.0, le-mul_of_pos_right count h)
unary_some one.All w h t = omega arith
unary_some one.NotAll w h t = omega arith
unary_some one.Any w h t = omega arith
unary_some one.NotAny w h t = omega arith
unary_some one.Odd w h t = omega arith
unary_some one.NotOdd w h t = omega arith

binary_some : (op : BinaryOp) (w u : ℕ) → 1 ≤ w → 1 ≤ binary_width op w u
binary_some Add w u h = h
binary_some Sub w u h = h
binary_some Mul w u h = h
binary_some And w u h = h
binary_some Or w u h = h
binary_some Xor w u h = h
binary_some Xnor w u h = h
binary_some Equal w u h = omega arith
binary_some NotEqual w u h = omega arith
binary_some Less w u h = omega arith
binary_some LessEqual w u h = omega arith
binary_some Greater w u h = omega arith
binary_some GreaterEqual w u h = omega arith
binary_some Shl w u h = h
binary_some Shr w u h = h
binary_some Join w u h = omega arith

mutual
  pub width_some : (e : Expr) (n : ℕ) → IsFormed e n → 1 ≤ width_of e
  width_some (Const word signed) n f = f.0
  width_some (Read bits) n f = f.0.0
  width_some (Select' vector window p index) n f = f.1.0
  width_some (Unary' op p a) n f = unary_some op (operand_width a) (operand_some a n f.1) f.0
  width_some (Binary' op p a q b) n f = binary_some op (operand_width a) (operand_width b) (operand_some a n f.1)
  width_some (Choose' p test q a r b) n f = operand_some a n f.2
  width_some (Logical' and chain shape all) n f = omega arith

  pub operand_some : {m : _} (a : Row_of-Expr m) (n : ℕ) → OperandFormed a n → 1 ≤ operand_width a
  operand_some end_of-Expr n f = absurd f
  operand_some (more_of-Expr e rest) n f = width_some e n f

-- ---- and at most 128

unary_most : (op : UnaryOp) (w : ℕ) → w ≤ 128 → Takes op w → unary_width op w ≤ 128
unary_most one.Not w h t = h
unary_most one.Neg w h t = h
unary_most (one.Extend width signed) w h t = t.1
unary_most (one.Repeat count) w h t = t.1
unary_most one.All w h t = omega arith
unary_most one.NotAll w h t = omega arith
unary_most one.Any w h t = omega arith
unary_most one.NotAny w h t = omega arith
unary_most one.Odd w h t = omega arith
unary_most one.NotOdd w h t = omega arith

binary_most : (op : BinaryOp) (w u : ℕ) → w ≤ 128 → TakesBoth op w u → binary_width op w u ≤ 128
binary_most Add w u h t = h
binary_most Sub w u h t = h
binary_most Mul w u h t = h
binary_most And w u h t = h
binary_most Or w u h t = h
binary_most Xor w u h t = h
binary_most Xnor w u h t = h
binary_most Equal w u h t = omega arith
binary_most NotEqual w u h t = omega arith
binary_most Less w u h t = omega arith
binary_most LessEqual w u h t = omega arith
binary_most Greater w u h t = omega arith
binary_most GreaterEqual w u h t = omega arith
binary_most Shl w u h t = h
binary_most Shr w u h t = h
binary_most Join w u h t = t

mutual
  pub width_most : (e : Expr) (n : ℕ) → IsFormed e n → width_of e ≤ 128
  width_most (Const word signed) n f = f.1
  width_most (Read bits) n f = f.0.1
  width_most (Select' vector window p index) n f = f.1.1
  width_most (Unary' op p a) n f = unary_most op (operand_width a) (operand_most a n f.1) f.0
  width_most (Binary' op p a q b) n f = binary_most op (operand_width a) (operand_width b) (operand_most a n f.1) f.0
  width_most (Choose' p test q a r b) n f = operand_most a n f.2
  width_most (Logical' and chain shape all) n f = omega arith

  pub operand_most : {m : _} (a : Row_of-Expr m) (n : ℕ) → OperandFormed a n → operand_width a ≤ 128
  operand_most end_of-Expr n f = absurd f
  operand_most (more_of-Expr e rest) n f = width_most e n f
