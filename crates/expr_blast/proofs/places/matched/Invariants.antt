use Rattle.std.proofs.Common.{◌≡◌, ◌++◌, drop}
use Rattle.expr_blast.specs.Circuits.{matched}
use Rattle.expr_blast.proofs.places.matched.Given as goal

abbrev pub invariant-loop-literal : goal.invariant-loop-literal
invariant-loop-literal l = l.literals.items ++ matched (drop l.literal-index l.word) l.rest ≡ matched l.word l.number
