use Rattle.std.proofs.Common.{take}
use Rattle.bit_exprs.specs.Named.{among}
use Rattle.elab_flat.specs.Owners.{Owns}
use Rattle.elab_flat.proofs.drivers.own_bits.Given as goal

abbrev pub invariant-loop-bit : goal.invariant-loop-bit
invariant-loop-bit l = Owns (among (take l.bit-index l.bits)) l.process l.initial.owners l.owners
