use Rattle.std.proofs.Common.{◌≡◌, take, map}
use Rattle.point_cone.specs.Back.{whole_lit}
use Rattle.point_cone.proofs.build.Cone.lemma.Given as goal

abbrev pub invariant-loop-lit : goal.invariant-loop-lit
invariant-loop-lit l = l.lits ≡ map (whole_lit l.self.states) (take l.lit-index l.lemma.lits)
