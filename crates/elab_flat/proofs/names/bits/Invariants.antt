use Rattle.std.proofs.Common.{◌≡◌, take}
use Rattle.elab_flat.specs.Bits.{each_of, info_of}
use Rattle.elab_flat.proofs.names.bits.Given as goal

abbrev pub invariant-loop-net : goal.invariant-loop-net
invariant-loop-net l = l.bits ≡ each_of (info_of l.path) (take l.net-index l.nets)
