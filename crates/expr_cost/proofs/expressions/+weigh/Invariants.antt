use Rattle.std.proofs.Common.{◌≡◌, take}
use Rattle.std.specs.List.{sum_by}
use Rattle.bit_exprs.specs.Cost.{capped}
use Rattle.expr_cost.proofs.Equations.{tested}
use Rattle.expr_cost.proofs.expressions.+weigh.Given as goal

abbrev pub invariant-loop-operand : goal.invariant-loop-operand
invariant-loop-operand l = l.total ≡ capped (sum_by tested (take l.operand-index l.operand-items))
