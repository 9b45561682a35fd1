use Rattle.std.proofs.Common.{◌≡◌, map, take}
use Rattle.clause_names.specs.Naming.{named}
use Rattle.clause_names.proofs.naming.named_lits.Given as goal

abbrev pub invariant-loop-literal : goal.invariant-loop-literal
invariant-loop-literal l = l.all.items ≡ map (named l.names.keys) (take l.literal-index l.lits)
