use Rattle.bit_exprs.specs.Values.{bit_at}
use Rattle.expr_value.proofs.Copies.{copy_more, copy_done}
use Rattle.expr_value.proofs.writes.copy.Goals as goal

pub loop-bit-preserved : goal.loop-bit-preserved
loop-bit-preserved c = copy_more (bit_at c.args.from.now) _ _ _ _ c.loop-bit-test.true c.loop-bit.invariant

pub returns : goal.returns
returns c = copy_done (bit_at c.args.from.now) _ _ _ _ c.loop-bit-test.false c.loop-bit.invariant
