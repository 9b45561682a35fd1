use Rattle.generalise.specs.Lifting.{IsGathered}
use Rattle.generalise.proofs.lift.gather.Given as goal

abbrev pub invariant-loop-k : goal.invariant-loop-k
invariant-loop-k l = IsGathered l.marks l.state l.first l.k l.cube
