use Rattle.cycle_tests.specs.Counter.{IsCounter}
use Rattle.cycle_tests.proofs.tests.counts.Given as goal

abbrev pub invariant-loop-inputs : goal.invariant-loop-inputs
invariant-loop-inputs g l = IsCounter l.sim.legal.design
