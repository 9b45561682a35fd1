use Rattle.point_cone.specs.Naming.{AreLeaves}
use Rattle.point_cone.proofs.rename.name_leaves.Given as goal

abbrev pub invariant-loop-k : goal.invariant-loop-k
invariant-loop-k l = AreLeaves l.marks l.fn.names l.names l.first l.k l.from l.places
