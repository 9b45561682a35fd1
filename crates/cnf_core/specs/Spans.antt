-- Parts of one list of literals.
use Rattle.std.specs.Prelude.{ℕ, ◌≤◌, List, slice_range}
use Rattle.cnf_core.specs.Literal.{Literal}
use Rattle.cnf_core.specs.declared.Span.{Span}

-- the part of a list
abbrev pub cut : List Literal → Span → List Literal
cut lits s = slice_range lits s.from s.to

-- the part lies within a list of length n
abbrev pub IsWithin : ℕ → Span → Type 0
IsWithin n s = (s.from ≤ s.to) × (s.to ≤ n)
