use Rattle.std.proofs.Common.{◌≡◌, drop}
use Rattle.bit_exprs.specs.Named.{among}
use Rattle.bit_exprs.proofs.names.is_among.Given as goal

abbrev pub invariant-loop-b : goal.invariant-loop-b
invariant-loop-b l = among (drop l.b-index l.bits) l.bit ≡ among l.bits l.bit
