use Rattle.expr_value.proofs.Listing.{one_more, selected_split}
use Rattle.expr_value.proofs.lists.list_selected.Goals as goal

pub loop-k-preserved : goal.loop-k-preserved
loop-k-preserved c =
    one_more c.loop-k.updates.items _ _ _ _ _ c.in_ok-list_place.ensures (selected_split c.args.window c.args.vector.now c.args.at.width c.args.signed c.args.at.bits c.args.window.count c.loop-k.k c.loop-k.rest c.loop-k-test.true) c.loop-k.invariant
