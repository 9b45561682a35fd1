use Rattle.expr_value.proofs.Writing.{write_more, write_done}
use Rattle.expr_value.proofs.writes.write_bits.Goals as goal

pub loop-bit-preserved : goal.loop-bit-preserved
loop-bit-preserved c = write_more _ _ _ _ _ c.loop-bit-test.true c.loop-bit.invariant

pub returns : goal.returns
returns c = write_done _ _ _ _ _ c.loop-bit-test.false c.loop-bit.invariant
