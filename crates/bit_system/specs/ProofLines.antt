-- What the lines of a proof say, with no place in memory in it.
use Rattle.std.specs.Prelude.{ℕ, List}
use Rattle.cnf_core.specs.Literal.{Literal}
use Rattle.cnf_core.specs.declared.Line.{Line}
use Rattle.cnf_core.specs.declared.Line.TheVariants as line

-- a clause that follows, with its number and the numbers of the clauses that show it, in order; or the numbers of clauses that are used no more
pub data ProofLine : Type 0 where
  addition : ℕ → List Literal → List ℕ → ProofLine
  deletion : ℕ → List ℕ → ProofLine

-- what a line says
abbrev pub seen : Line → ProofLine
seen (line.Add id lits hints) = addition id lits.items hints.items
seen (line.Delete id ids) = deletion id ids.items
