-- What numbering keeps.
use Rattle.std.specs.Prelude.{List}
use Rattle.cnf_core.specs.Literal.{Literal, HaveNoSolution}
use Rattle.clause_names.specs.Numbering.{IsNumbering}
use Rattle.clause_names.specs.declared.numbering.Numbered.{Numbered}

-- where clauses have no solution, neither have they over dense variables
abbrev pub NumberedClausesAreAsUnsolvable : Type 0
NumberedClausesAreAsUnsolvable = (clauses : List (List Literal)) (n : Numbered) → IsNumbering clauses n → HaveNoSolution clauses → HaveNoSolution n.clauses
