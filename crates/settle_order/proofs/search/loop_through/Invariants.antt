use Rattle.std.proofs.Common.{◌+◌, ◌-◌, ◌≤◌, length}
use Rattle.settle_order.specs.Search.{IsSearched}
use Rattle.settle_order.specs.Sweeping.{down}
use Rattle.settle_order.proofs.search.loop_through.Given as goal

abbrev pub invariant-loop-at : goal.invariant-loop-at
invariant-loop-at l = record {
  searched : IsSearched l.nodes l.c (length l.table) l.seen.items l.steps.items l.at;
  within : l.at ≤ length l.steps.items;
}

abbrev pub decreases-loop-at : goal.decreases-loop-at
decreases-loop-at l = down l.seen.items + length l.steps.items - l.at
