use Rattle.std.proofs.Common.{◌≡◌, take}
use Rattle.elab_flat.specs.Assigned.{registers_of}
use Rattle.elab_flat.proofs.targets.registers_by_name.Given as goal

abbrev pub invariant-loop-net : goal.invariant-loop-net
invariant-loop-net l = l.registers ≡ registers_of (take l.net-index l.nets)
