use Rattle.cycle_model.proofs.Steps.{put_more, put_done}
use Rattle.cycle_model.proofs.phases.put_inputs.Goals as goal

pub loop-k-preserved : goal.loop-k-preserved
loop-k-preserved c = put_more _ _ _ _ _ c.loop-k-test.true c.requires.inputs c.loop-k.invariant

pub returns : goal.returns
returns c = put_done _ _ _ _ _ c.loop-k-test.false c.requires.inputs c.loop-k.invariant
