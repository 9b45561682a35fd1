use Rattle.cycle_model.proofs.Steps.{Clocking}
use Rattle.cycle_model.proofs.phases.clock.Given as goal

abbrev pub invariant-loop-process : goal.invariant-loop-process
invariant-loop-process l = Clocking l.trigger l.process-items l.process-index l.initial.values l.initial.next l.initial.marks l.values l.next l.marks
