use Rattle.std.proofs.Common.{◌≡◌, drop}
use Rattle.bit_exprs.specs.Values.{bit_at}
use Rattle.expr_value.proofs.Copies.{copied}
use Rattle.expr_value.proofs.writes.copy.Given as goal

abbrev pub invariant-loop-bit : goal.invariant-loop-bit
invariant-loop-bit l = copied (bit_at l.from) (drop l.bit-index l.bits) l.to ≡ copied (bit_at l.from) l.bits l.initial.to
