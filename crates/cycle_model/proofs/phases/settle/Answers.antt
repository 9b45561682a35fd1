use Rattle.cycle_model.proofs.Blocks.{block_more}
use Rattle.cycle_model.proofs.Steps.{body_at, bodies_long}
use Rattle.cycle_model.proofs.phases.settle.Goals as goal

pub loop-k-preserved : goal.loop-k-preserved
loop-k-preserved c =
    block_more _ _ c.index-processes-k.result.body _ _ _ _ _ (bodies_long c.args.design.now c.args.order.now _ c.loop-k-test.true)
    (body_at c.args.design.now c.args.order.now c.as_slice-processes.result.now _ c.index-processes-k.result c.loop-k-test.true (c.requires.legal.named _ 0 c.loop-k-test.true) c.as_slice-processes.ensures c.index-processes-k.is)
    c.execute.ensures.values c.execute.ensures.next c.execute.ensures.marks c.loop-k.invariant
