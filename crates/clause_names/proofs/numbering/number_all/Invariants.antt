use Rattle.std.proofs.Common.{take}
use Rattle.clause_names.specs.Naming.{IsNaming}
use Rattle.clause_names.specs.Numbering.{Grows, IsInClauses, AreNumbered}
use Rattle.clause_names.proofs.numbering.number_all.Given as goal

abbrev pub invariant-loop-at : goal.invariant-loop-at
invariant-loop-at l =
    AreNumbered l.names.keys (take l.at l.clauses) l.numbered × Grows l.initial.names.keys l.names.keys (IsInClauses l.clauses) × IsNaming l.names.keys
