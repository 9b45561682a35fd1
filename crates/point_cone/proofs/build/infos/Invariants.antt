use Rattle.std.proofs.Common.{◌≡◌, take}
use Rattle.point_cone.specs.Parts.{infos_at}
use Rattle.point_cone.proofs.build.infos.Given as goal

abbrev pub invariant-loop-state : goal.invariant-loop-state
invariant-loop-state l = l.infos ≡ infos_at l.system.states (take l.state-index l.states)
