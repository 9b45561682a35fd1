use Rattle.design_core.specs.declared.flat.Process.{Process}
use Rattle.design_core.specs.Settled.{is_clocked}
use Rattle.event_order.proofs.Marking.{MarkedBefore}
use Rattle.event_order.proofs.phases.mark_clocked.Given as goal

abbrev pub invariant-loop-k : goal.invariant-loop-k
invariant-loop-k l = MarkedBefore (λ (p : Process). is_clocked p.kind) l.processes l.k l.pending
