use Rattle.std.proofs.Common.{◌≡◌, ℕ, ◌<◌, List, true, false, length}
use Rattle.settle_order.specs.Loops.{IsChain}
use Rattle.settle_order.specs.Sweeping.{on, down}
use Rattle.settle_order.proofs.search.looped.Given as goal

abbrev pub invariant-loop-seen : goal.invariant-loop-seen
invariant-loop-seen l = record {
  unknown : on l.sweep.known l.bit ≡ false;
  within : l.bit < length l.table;
  size : length l.seen.items ≡ length l.table;
  reaches : (x : ℕ) → on l.seen.items x ≡ true → (between : List ℕ) × IsChain l.nodes l.bit between x;
}

abbrev pub decreases-loop-seen : goal.decreases-loop-seen
decreases-loop-seen l = down l.seen.items
