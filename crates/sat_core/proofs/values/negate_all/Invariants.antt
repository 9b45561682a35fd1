use Rattle.std.proofs.Common.{◌≡◌, map, take}
use Rattle.cnf_core.specs.Literal.{negated}
use Rattle.sat_core.proofs.values.negate_all.Given as goal

abbrev pub invariant-loop-literal : goal.invariant-loop-literal
invariant-loop-literal l = l.negations ≡ map negated (take l.literal-index l.lits)
