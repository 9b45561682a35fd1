-- What an arena holds.
use Rattle.std.specs.Prelude.{ℕ, ◌≤◌, List, [], Option, Some, None, IsSome, All, if◌then◌else◌, slice_index_or, length}
use Rattle.std.specs.List.{AllPairs}
use Rattle.cnf_core.specs.Literal.{Literal}
use Rattle.cnf_core.specs.Spans.{cut, IsWithin}
use Rattle.clause_arena.specs.declared.Ref.{Ref}
use Rattle.clause_arena.specs.declared.Slot.{Slot}

-- by place, from 0 on, the clause that was put there, or nothing where it was removed
abbrev pub Places : Type 0
Places = List (Option (List Literal))

-- the clauses, and how many words are reserved: a clause takes one for each literal, and one of its own
pub record Stored : Type 0 where
  pub places : Places
  pub spare : ℕ

-- the clause that a reference is for, or nothing where there is none
abbrev pub clause_at : Places → Ref → Option (List Literal)
clause_at places at = slice_index_or places at.place None

-- a clause stands at the reference
abbrev pub IsLive : Places → Ref → Type 0
IsLive places at = IsSome (clause_at places at)

-- the literals of a clause, or none where there is no clause
abbrev pub literals : Option (List Literal) → List Literal
literals None = []
literals (Some clause) = clause

-- what stands at a place, in an arena whose literals are these
abbrev pub held : List Literal → Slot → Option (List Literal)
held lits s = if s.is_live then Some (cut lits s.span) else None

-- each clause has a part of the literals for itself, in the order of the places
pub record AreApart (lits : List Literal) (slots : List Slot) : Type 0 where
  pub within : All (λ s. IsWithin (length lits) s.span) slots
  pub apart : AllPairs (λ a b. a.span.to ≤ b.span.from) slots
