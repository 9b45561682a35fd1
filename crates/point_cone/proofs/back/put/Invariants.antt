use Rattle.point_cone.specs.Back.{IsPut}
use Rattle.point_cone.proofs.back.put.Given as goal

abbrev pub invariant-loop-k : goal.invariant-loop-k
invariant-loop-k l = IsPut l.places l.some l.k l.fn.values l.values
