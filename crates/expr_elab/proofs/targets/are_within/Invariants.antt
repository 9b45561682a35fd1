use Rattle.std.proofs.Common.{◌≡◌, nat_le, drop}
use Rattle.bit_exprs.specs.Updates.{parts_width}
use Rattle.expr_elab.proofs.targets.are_within.Given as goal

abbrev pub invariant-loop-part : goal.invariant-loop-part
invariant-loop-part l = nat_le (parts_width (drop l.part-index l.parts)) l.room ≡ nat_le (parts_width l.parts) 128
