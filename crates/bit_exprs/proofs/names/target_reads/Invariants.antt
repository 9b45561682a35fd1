use Rattle.std.proofs.Common.{◌≡◌, drop}
use Rattle.bit_exprs.specs.Named.{parts_read}
use Rattle.bit_exprs.proofs.names.target_reads.Given as goal

abbrev pub invariant-loop-part : goal.invariant-loop-part
invariant-loop-part l = parts_read (drop l.part-index l.part-items) l.bit ≡ parts_read l.part-items l.bit
