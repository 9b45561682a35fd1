use Rattle.std.proofs.Common.{◌<◌, All, take}
use Rattle.plain_blast.specs.declared.bodies.Passed.{Passed}
use Rattle.plain_blast.proofs.points.site_bound.Given as goal

abbrev pub invariant-loop-p : goal.invariant-loop-p
invariant-loop-p l = All (λ (p : Passed). p.site < l.bound) (take l.p-index l.paths)
