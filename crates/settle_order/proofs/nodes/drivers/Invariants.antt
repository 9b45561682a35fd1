use Rattle.settle_order.specs.Nodes.{IsTable}
use Rattle.settle_order.proofs.nodes.drivers.Given as goal

abbrev pub invariant-loop-k : goal.invariant-loop-k
invariant-loop-k l = IsTable l.nodes l.bits l.k l.table
