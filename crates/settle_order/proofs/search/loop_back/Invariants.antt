use Rattle.std.proofs.Common.{◌<◌, length}
use Rattle.settle_order.proofs.Searching.{HasBack}
use Rattle.settle_order.proofs.search.loop_back.Given as goal

abbrev pub invariant-loop-at : goal.invariant-loop-at
invariant-loop-at l = record {
  within : l.at < length l.steps;
  between : HasBack l.c l.steps l.fn.at l.at l.bits;
}

abbrev pub decreases-loop-at : goal.decreases-loop-at
decreases-loop-at l = l.at
