use Rattle.std.proofs.Common.{take}
use Rattle.elab_flat.specs.Owners.{Owns}
use Rattle.elab_flat.proofs.Driving.{some_drives}
use Rattle.elab_flat.proofs.drivers.+own_body.Given as goal

abbrev pub invariant-loop-s : goal.invariant-loop-s
invariant-loop-s l = Owns (some_drives (take l.s-index l.s-items)) l.process l.initial.owners l.owners

abbrev pub decreases-own_body : goal.decreases-own_body
decreases-own_body l = goal.size-own_body l
