use Rattle.std.proofs.Common.{◌≡◌}
use Rattle.bit_exprs.specs.Values.{bit_at}
use Rattle.expr_value.proofs.Copies.{copied, left_bits}
use Rattle.expr_value.proofs.writes.copy_named.Given as goal

abbrev pub invariant-loop-part : goal.invariant-loop-part
invariant-loop-part l = copied (bit_at l.from) (left_bits l.part-items l.part-index) l.to ≡ copied (bit_at l.from) (left_bits l.part-items 0) l.initial.to
