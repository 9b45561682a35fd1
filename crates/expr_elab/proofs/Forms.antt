-- What the forms of expressions and targets that have lists are built of.
use Rattle.std.proofs.Common.{◌≡◌, Option}
use Rattle.vlog_syntax.specs.declared.expr.BinaryOp.{BinaryOp}
use Rattle.vlog_syntax.specs.declared.expr.Expr.{Expr}
use Rattle.vlog_syntax.specs.declared.expr.Expr.TheFolds.{fold-roll-Operand}
use Rattle.expr_elab.specs.declared.built.Built.{Built}
use Rattle.expr_elab.specs.declared.built.Picked.{Picked}
use Rattle.expr_elab.specs.declared.built.RowOp.{RowOp}
use Rattle.expr_elab.specs.Vectors.{Scope}
use Rattle.expr_elab.specs.Operators.{row_op}
use Rattle.expr_elab.specs.Elaboration.{select_step, operand_step, expr_step, built_of, operand_of}

module _ (scope : Scope) where
  -- an operand, by its parts
  pub operand_is : (op : BinaryOp) (e : Expr) → operand_of scope (record { op = op; value = e }) ≡ (row_op op, built_of scope e)
  operand_is op e = fold-roll-Operand (Option Built) (Option Picked) (RowOp × Option Built) (expr_step scope) select_step operand_step (record { op = op; value = e })
