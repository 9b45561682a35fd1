use Rattle.std.proofs.Common.{take}
use Rattle.clause_names.specs.Naming.{IsNaming}
use Rattle.clause_names.specs.Numbering.{Grows, IsInClause, ClauseIsNumbered}
use Rattle.clause_names.proofs.numbering.number_clause.Given as goal

abbrev pub invariant-loop-literal : goal.invariant-loop-literal
invariant-loop-literal l =
    ClauseIsNumbered l.names.keys (take l.literal-index l.clause) l.numbers.items × Grows l.initial.names.keys l.names.keys (IsInClause l.clause) × IsNaming l.names.keys
