use Rattle.std.proofs.Common.{arith}
use Rattle.std.proofs.lemmas.List.{take_all}
use Rattle.generalise.proofs.Marks.{marked_more}
use Rattle.generalise.proofs.lift.mark_all.Goals as goal

pub loop-literal-preserved : goal.loop-literal-preserved
loop-literal-preserved c =
    rw c.mark.ensures
    (marked_more c.loop-literal.marks c.args.literals.now c.loop-literal.literal-index c.loop-literal-test.true
    (omega (arith, c.requires c.loop-literal.literal-index 0 c.loop-literal-test.true)) c.loop-literal.invariant)

pub returns : goal.returns
returns c = rw (← take_all c.loop-literal.literal-index c.args.literals.now c.loop-literal-test.false) c.loop-literal.invariant
