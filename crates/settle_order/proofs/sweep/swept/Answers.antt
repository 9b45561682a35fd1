use Rattle.std.proofs.Common.{length, ap, arith}
use Rattle.settle_order.specs.Sweeping.{down}
use Rattle.settle_order.proofs.Flags.{down_set}
use Rattle.settle_order.proofs.Placing.{popped, popped_known, popped_next, popped_left, keys_none, stuck}
use Rattle.settle_order.proofs.sweep.swept.Goals as goal

pub place-requires-clause-swept : goal.place-requires-clause-swept
place-requires-clause-swept c = popped c.args.nodes.now c.loop-node.sweep c.in-Some.node c.pop_first.new.self c.loop-node.invariant.swept c.in-Some.ensures.removal

pub place-requires-clause-known : goal.place-requires-clause-known
place-requires-clause-known c = popped_known c.args.nodes.now c.loop-node.sweep c.in-Some.node c.pop_first.new.self c.loop-node.invariant.swept c.in-Some.ensures.removal

pub place-requires-clause-next : goal.place-requires-clause-next
place-requires-clause-next c =
    popped_next c.args.nodes.now c.loop-node.sweep c.in-Some.node c.pop_first.new.self c.loop-node.invariant.swept c.loop-node.invariant.ordered c.in-Some.ensures.removal c.in-Some.ensures.all_above

pub loop-node-smaller : goal.loop-node-smaller
loop-node-smaller c =
    let left = popped_left c.args.nodes.now c.loop-node.sweep c.in-Some.node c.pop_first.new.self c.loop-node.invariant.swept c.in-Some.ensures.removal in
    let fewer = down_set c.loop-node.sweep.placed c.in-Some.node (omega (arith, left.exists, c.loop-node.invariant.swept.sized.placed)) left.unplaced in
    omega (arith, fewer, ap down c.in_ok-place.ensures.placed)

pub returns : goal.returns
returns c =
    stuck c.args.nodes.now (length c.args.table.now) c.loop-node.sweep c.pop_first.new.self c.loop-node.invariant.swept c.loop-node.invariant.ordered c.loop-node.invariant.size c.in_default.ensures.unchanged
    (keys_none c.loop-node.sweep.ready.keys c.in_default.ensures.variant.1)
