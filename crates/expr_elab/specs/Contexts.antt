-- Bringing an expression to the width and the sign of its context (IEEE 1364-2001 clauses 4.4.1 and 4.5.2).
use Rattle.std.specs.Prelude.{ℕ, ◌==◌, Bool, not, cond, ◌&&◌}
use Rattle.bit_exprs.specs.declared.forms.Expr.{Expr, Unary, Row_of-Expr, end_of-Expr, more_of-Expr}
use Rattle.bit_exprs.specs.declared.forms.Expr.TheVariants.{Const, Read, Select', Unary', Binary', Choose', Logical'}
use Rattle.bit_exprs.specs.declared.forms.UnaryOp.{UnaryOp}
use Rattle.bit_exprs.specs.declared.forms.UnaryOp.TheVariants.{Not, Neg, Extend, Repeat, All, NotAll, Any, NotAny, Odd, NotOdd}
use Rattle.bit_exprs.specs.declared.forms.BinaryOp.{BinaryOp}
use Rattle.bit_exprs.specs.declared.forms.BinaryOp.TheVariants.{Add, Sub, Mul, And, Or, Xor, Xnor, Equal, NotEqual, Less, LessEqual, Greater, GreaterEqual, Shl, Shr, Join}
use Rattle.expr_elab.specs.declared.built.Built.{Built}
use Rattle.expr_elab.specs.declared.built.UnaryPassing.{UnaryPassing}
use Rattle.expr_elab.specs.declared.built.UnaryPassing.TheVariants.{On, Anew}
use Rattle.expr_elab.specs.declared.built.UnaryPassing.TheVariants as one
use Rattle.expr_elab.specs.declared.built.BinaryPassing.{BinaryPassing}
use Rattle.expr_elab.specs.declared.built.BinaryPassing.TheVariants.{Both, Left}
use Rattle.expr_elab.specs.declared.built.BinaryPassing.TheVariants as two

-- ---- to which operands an operator passes its context on

abbrev pub unary_passing : UnaryOp → UnaryPassing
unary_passing Not = On
unary_passing Neg = On
unary_passing (Extend width signed) = Anew
unary_passing (Repeat count) = one.Ends
unary_passing All = one.Ends
unary_passing NotAll = one.Ends
unary_passing Any = one.Ends
unary_passing NotAny = one.Ends
unary_passing Odd = one.Ends
unary_passing NotOdd = one.Ends

abbrev pub binary_passing : BinaryOp → BinaryPassing
binary_passing Add = Both
binary_passing Sub = Both
binary_passing Mul = Both
binary_passing And = Both
binary_passing Or = Both
binary_passing Xor = Both
binary_passing Xnor = Both
binary_passing Equal = two.Ends
binary_passing NotEqual = two.Ends
binary_passing Less = two.Ends
binary_passing LessEqual = two.Ends
binary_passing Greater = two.Ends
binary_passing GreaterEqual = two.Ends
binary_passing Shl = Left
binary_passing Shr = Left
binary_passing Join = two.Ends

abbrev pub by_unary : UnaryPassing → Expr → Expr → Expr → Expr
by_unary On passed anew whole = passed
by_unary Anew passed anew whole = anew
by_unary one.Ends passed anew whole = whole

abbrev pub by_binary : BinaryPassing → Expr → Expr → Expr → Expr
by_binary Both both left whole = both
by_binary Left both left whole = left
by_binary two.Ends both left whole = whole

abbrev mutual
  -- An expression in a context of w bits, signed where s says so: the operands that share the context are brought to it, down to those that don't
  -- pass it on, which are extended by its sign.
  pub pushed : ℕ → Bool → Expr → Expr
  pushed w s (Const word signed) = Unary (Extend w s) (Const word signed)
  pushed w s (Read bits) = Unary (Extend w s) (Read bits)
  pushed w s (Select' vector window p index) = Unary (Extend w s) (Select' vector window p index)
  pushed w s (Unary' op p a) = by_unary (unary_passing op) (Unary' op p (operand_pushed w s a)) (Unary' (Extend w s) p a) (Unary (Extend w s) (Unary' op p a))
  pushed w s (Binary' op p a q b) =
      by_binary (binary_passing op) (Binary' op p (operand_pushed w s a) q (operand_pushed w s b)) (Binary' op p (operand_pushed w s a) q b) (Unary (Extend w s) (Binary' op p a q b))
  pushed w s (Choose' p test q a r b) = Choose' p test q (operand_pushed w s a) r (operand_pushed w s b)
  pushed w s (Logical' and chain shape all) = Unary (Extend w s) (Logical' and chain shape all)

  pub operand_pushed : {m : _} → ℕ → Bool → Row_of-Expr m → Row_of-Expr m
  operand_pushed w s end_of-Expr = end_of-Expr
  operand_pushed w s (more_of-Expr e rest) = more_of-Expr (pushed w s e) rest

-- an expression in a context; where it has that width and sign by itself it stays as it is
abbrev pub brought : ℕ → Bool → Built → Expr
brought w s x = cond (x.width == w && cond x.signed s (not s)) x.expr (pushed w s x.expr)
