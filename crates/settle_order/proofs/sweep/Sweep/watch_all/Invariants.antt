use Rattle.std.proofs.Common.{drop}
use Rattle.settle_order.specs.Sweeping.{IsSwept, SameFlags}
use Rattle.settle_order.proofs.sweep.Sweep.watch_all.Given as goal

abbrev pub invariant-loop-node : goal.invariant-loop-node
invariant-loop-node l = record {
  swept : IsSwept l.nodes l.self (drop l.node-index l.loose);
  same : SameFlags l.fn.self l.self;
}
