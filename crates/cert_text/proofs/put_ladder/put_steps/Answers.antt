use Rattle.cert_text.proofs.Writing.{step_put}
use Rattle.cert_text.proofs.put_ladder.put_steps.Goals as goal

pub loop-i-preserved : goal.loop-i-preserved
loop-i-preserved c =
    step_put c.args.out.now.items c.loop-i.out.items c.put_step.new.out.items c.args.steps.now c.loop-i.i c.index-steps-i.result c.loop-i-test.true c.index-steps-i.is c.loop-i.invariant c.in_ok-put_step.ensures
