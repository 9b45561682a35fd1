use Rattle.std.proofs.Common.{◌≡◌, take}
use Rattle.std.specs.List.{sum_by}
use Rattle.bit_exprs.specs.Cost.{capped, part_cost}
use Rattle.expr_cost.proofs.targets.target_cost.Given as goal

abbrev pub invariant-loop-part : goal.invariant-loop-part
invariant-loop-part l = l.total ≡ capped (sum_by part_cost (take l.part-index l.part-items))
