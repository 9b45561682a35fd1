use Rattle.std.proofs.Common.{◌≡◌, take}
use Rattle.point_cone.specs.Back.{starting}
use Rattle.point_cone.proofs.back.starting.Given as goal

abbrev pub invariant-loop-state : goal.invariant-loop-state
invariant-loop-state l = l.values ≡ starting (take l.state-index l.states)
