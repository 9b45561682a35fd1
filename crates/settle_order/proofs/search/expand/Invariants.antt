use Rattle.std.proofs.Common.{length}
use Rattle.settle_order.specs.Nodes.{node_at}
use Rattle.settle_order.proofs.Searching.{IsExpanding}
use Rattle.settle_order.proofs.search.expand.Given as goal

abbrev pub invariant-loop-need : goal.invariant-loop-need
invariant-loop-need l = IsExpanding l.nodes l.c (length l.table) l.at (node_at l.nodes l.driver).needs l.fn.seen l.fn.steps.items l.need-index l.seen l.steps.items
