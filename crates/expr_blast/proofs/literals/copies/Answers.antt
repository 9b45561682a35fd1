use Rattle.expr_blast.proofs.Loops.{copies_more}
use Rattle.expr_blast.proofs.literals.copies.Goals as goal

pub loop-preserved : goal.loop-preserved
loop-preserved c = copies_more c.args.count c.loop.counter c.args.word.now _ _ _ c.loop-test.true c.in_ok-extend_from_slice.ensures.items c.loop.invariant
