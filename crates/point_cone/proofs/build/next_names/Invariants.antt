use Rattle.std.proofs.Common.{◌≡◌, take, map}
use Rattle.bit_system.specs.Machine.{next_literal}
use Rattle.point_cone.specs.Naming.{name_of}
use Rattle.point_cone.proofs.build.next_names.Given as goal

abbrev pub invariant-loop-state : goal.invariant-loop-state
invariant-loop-state l = l.next ≡ map (λ s. name_of l.names (next_literal l.system s)) (take l.state-index l.states)
