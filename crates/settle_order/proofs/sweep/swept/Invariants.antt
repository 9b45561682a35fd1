use Rattle.std.proofs.Common.{◌≡◌, [], length}
use Rattle.settle_order.specs.Sweeping.{down, IsSwept, IsOrdered}
use Rattle.settle_order.proofs.sweep.swept.Given as goal

abbrev pub invariant-loop-node : goal.invariant-loop-node
invariant-loop-node l = record {
  swept : IsSwept l.nodes l.sweep [];
  ordered : IsOrdered l.nodes l.sweep;
  size : length l.sweep.known ≡ length l.table;
}

abbrev pub decreases-loop-node : goal.decreases-loop-node
decreases-loop-node l = down l.sweep.placed
