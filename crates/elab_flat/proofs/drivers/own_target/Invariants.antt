use Rattle.std.proofs.Common.{take}
use Rattle.std.specs.Prelude.{flat_map}
use Rattle.bit_exprs.specs.Named.{among, part_bits}
use Rattle.elab_flat.specs.Owners.{Owns}
use Rattle.elab_flat.proofs.drivers.own_target.Given as goal

abbrev pub invariant-loop-part : goal.invariant-loop-part
invariant-loop-part l = Owns (among (flat_map part_bits (take l.part-index l.part-items))) l.process l.initial.owners l.owners
