use Rattle.std.proofs.Common.{◌≡◌, true, [], ◌∷◌, ◌++◌, set}
use Rattle.settle_order.specs.Nodes.{node_at}
use Rattle.settle_order.specs.Sweeping.{IsSwept, IsRaised}
use Rattle.settle_order.proofs.sweep.Sweep.place.Given as goal

abbrev pub invariant-loop-bit : goal.invariant-loop-bit
invariant-loop-bit l = record {
  swept : IsSwept l.nodes l.self l.loose.items;
  placed : l.self.placed ≡ set l.fn.self.placed l.node true;
  order : l.self.order ≡ l.fn.self.order ++ l.node ∷ [];
  raised : IsRaised (node_at l.nodes l.node).drives l.bit-index l.fn.self.known l.self.known;
}
