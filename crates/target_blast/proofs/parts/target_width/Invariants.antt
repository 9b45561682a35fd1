use Rattle.std.proofs.Common.{◌≡◌, ◌+◌, drop}
use Rattle.bit_exprs.specs.Updates.{parts_width}
use Rattle.target_blast.proofs.parts.target_width.Given as goal

abbrev pub invariant-loop-part : goal.invariant-loop-part
invariant-loop-part l = l.total + parts_width (drop l.part-index l.part-items) ≡ parts_width l.part-items
