use Rattle.std.proofs.Common.{◌≡◌, heap_len}
use Rattle.sat_core.proofs.order.Order.next.Given as goal

abbrev pub invariant-loop-waiting : goal.invariant-loop-waiting
invariant-loop-waiting l = l.self.vars ≡ l.fn.self.vars

abbrev pub decreases-loop-waiting : goal.decreases-loop-waiting
decreases-loop-waiting l = heap_len l.self.waiting
