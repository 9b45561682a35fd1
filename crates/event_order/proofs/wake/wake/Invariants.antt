use Rattle.design_core.specs.declared.flat.Process.{Process}
use Rattle.event_order.specs.States.{wakes}
use Rattle.event_order.proofs.Waking.{RaisedBefore}
use Rattle.event_order.proofs.wake.wake.Given as goal

abbrev pub invariant-loop-k : goal.invariant-loop-k
invariant-loop-k l = RaisedBefore (λ (p : Process). wakes p l.old l.new) l.processes l.initial.pending l.k l.pending
