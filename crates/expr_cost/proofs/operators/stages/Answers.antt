use Rattle.std.proofs.Common.{refl, arith}
use Rattle.expr_cost.proofs.CostLaws.{stage_more}
use Rattle.expr_cost.proofs.operators.stages.Goals as goal

pub loop-stage-preserved : goal.loop-stage-preserved
loop-stage-preserved c = stage_more c.loop-stage.stage c.loop-stage.places _ c.args.width c.args.distance _ c.loop-stage-test.true (omega arith) refl c.loop-stage.invariant
