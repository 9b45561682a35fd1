use Rattle.std.proofs.Common.{◌≡◌, drop}
use Rattle.std.specs.Prelude.{flat_map}
use Rattle.bit_exprs.specs.Named.{among, certain_part}
use Rattle.bit_exprs.proofs.names.is_certain.Given as goal

abbrev pub invariant-loop-part : goal.invariant-loop-part
invariant-loop-part l = among (flat_map certain_part (drop l.part-index l.part-items)) l.bit ≡ among (flat_map certain_part l.part-items) l.bit
