use Rattle.expr_value.proofs.Writing.{selected_more, selected_done}
use Rattle.expr_value.proofs.writes.write_selected.Goals as goal

pub loop-k-preserved : goal.loop-k-preserved
loop-k-preserved c =
    selected_more c.args.window c.args.vector.now c.args.at.width c.args.signed c.args.at.bits _ _ _ c.loop-k.out _ c.loop-k.invariant _ c.loop-k-test.true c.write_place.ensures

pub returns : goal.returns
returns c = selected_done c.args.window c.args.vector.now c.args.at.width c.args.signed c.args.at.bits _ _ _ c.loop-k.out _ c.loop-k.invariant c.loop-k-test.false
