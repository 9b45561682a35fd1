use Rattle.std.proofs.Common.{◌≤◌, ◌+◌, length}
use Rattle.generalise.specs.Lifting.{Grows, AreSupported}
use Rattle.generalise.proofs.lift.support_all.Given as goal

abbrev pub invariant-loop-left : goal.invariant-loop-left
invariant-loop-left l = record {
  within : l.left ≤ length l.gates;
  grows : Grows l.fn.marks l.marks (l.first + length l.gates);
  supported : AreSupported l.values l.marks l.first l.gates l.left;
}

abbrev pub decreases-loop-left : goal.decreases-loop-left
decreases-loop-left l = l.left
