use Rattle.std.proofs.Common.{◌≡◌, ◌+◌, ◌-◌}
use Rattle.bit_exprs.specs.Cost.{stages}
use Rattle.expr_cost.proofs.operators.stages.Given as goal

abbrev pub invariant-loop-stage : goal.invariant-loop-stage
invariant-loop-stage l = l.stage + stages l.places l.width (l.distance - l.stage) ≡ stages 1 l.width l.distance
