use Rattle.std.proofs.Common.{◌≡◌, map, take}
use Rattle.expr_blast.specs.Circuits.{literal_at}
use Rattle.expr_blast.proofs.literals.picked.Given as goal

abbrev pub invariant-loop-bit : goal.invariant-loop-bit
invariant-loop-bit l = l.picked.items ≡ map (literal_at l.literals) (take l.bit-index l.bits)
