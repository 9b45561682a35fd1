use Rattle.std.proofs.Common.{◌≡◌, take}
use Rattle.elab_flat.specs.Bits.{bits_where, is_data_input}
use Rattle.elab_flat.proofs.names.inputs.Given as goal

abbrev pub invariant-loop-net : goal.invariant-loop-net
invariant-loop-net l = l.bits ≡ bits_where (is_data_input l.clock) (take l.net-index l.nets)
