use Rattle.clause_names.proofs.Whole.{unsolvable}
use Rattle.clause_names.proofs.numbering.law_numbered_clauses_are_as_unsolvable.Goals as goal

pub returns : goal.returns
returns c clauses n h none = unsolvable clauses n h none
