use Rattle.expr_value.proofs.Listing.{one_more, bits_split}
use Rattle.expr_value.proofs.lists.list_bits.Goals as goal

pub loop-bit-preserved : goal.loop-bit-preserved
loop-bit-preserved c =
    one_more c.loop-bit.updates.items _ _ _ _ _ c.in_ok-push.ensures.items (bits_split c.args.bits.now c.loop-bit.bit-index c.loop-bit.rest c.loop-bit-test.true) c.loop-bit.invariant
