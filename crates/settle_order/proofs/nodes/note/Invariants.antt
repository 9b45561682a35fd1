use Rattle.settle_order.specs.Nodes.{IsNoted}
use Rattle.settle_order.proofs.nodes.note.Given as goal

abbrev pub invariant-loop-bit : goal.invariant-loop-bit
invariant-loop-bit l = IsNoted l.drives l.node l.bit-index l.fn.table l.table
