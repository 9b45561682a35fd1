use Rattle.std.proofs.Common.{◌≡◌, map, drop}
use Rattle.bit_exprs.specs.Values.{value_of, row_holds}
use Rattle.bit_exprs.proofs.Rows.{after}
use Rattle.expr_value.proofs.evaluate.+value.Given as goal

abbrev pub invariant-loop-operand : goal.invariant-loop-operand
invariant-loop-operand l =
    after l.every l.holds (row_holds l.every (map (λ e. value_of e l.values) (drop l.operand-index l.operand-items))) ≡ row_holds l.every (map (λ e. value_of e l.values) l.operand-items)
