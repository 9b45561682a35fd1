use Rattle.std.proofs.Common.{◌≡◌, map, drop}
use Rattle.expr_elab.specs.Elaboration.{concatenated, row_from, built_of, operand_of}
use Rattle.expr_elab.proofs.exprs.+built.Given as goal

abbrev pub invariant-concatenated-loop-value : goal.invariant-concatenated-loop-value
invariant-concatenated-loop-value l = concatenated l.all (map (built_of l.scope) (drop l.value-index l.values)) ≡ concatenated l.fn.left (map (built_of l.scope) l.values)

abbrev pub invariant-row_from-loop-other : goal.invariant-row_from-loop-other
invariant-row_from-loop-other l = row_from l.all (map (operand_of l.scope) (drop l.other-index l.others)) ≡ row_from l.fn.row (map (operand_of l.scope) l.others)
