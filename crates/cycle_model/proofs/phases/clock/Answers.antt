use Rattle.std.proofs.Common.{◌∙◌}
use Rattle.cycle_model.proofs.Steps.{clock_then, clock_else}
use Rattle.cycle_model.proofs.phases.clock.Goals as goal
use Rattle.cycle_model.proofs.phases.clock.Goals.{then-is_run, else-is_run}

pub loop-process-preserved : goal.loop-process-preserved
loop-process-preserved c = elim c.if-is_run.branch [
  | then-is_run w ↦ clock_then _ _ _ c.process-item.result _ _ _ _ _ _ c.is_run.result c.loop-process-test.true c.process-item.is c.is_run.ensures c.loop-process.invariant
      _ _ _ (rw c.as_slice-process-items.ensures c.requires.able.assigns) w.if-is_run.true (w.values-is ∙ w.execute.ensures.values) (w.next-is ∙ w.execute.ensures.next) (w.marks-is ∙ w.execute.ensures.marks)
  | else-is_run w ↦ rw (w.values-is, w.next-is, w.marks-is)
      (clock_else _ _ _ c.process-item.result _ _ _ _ _ _ c.is_run.result c.loop-process-test.true c.process-item.is c.is_run.ensures c.loop-process.invariant w.if-is_run.false)
]
