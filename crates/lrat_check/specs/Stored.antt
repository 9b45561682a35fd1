-- A store of clauses.
use Rattle.std.specs.Prelude.{ℕ, ◌≤◌, if◌then◌else◌, List, [], ◌∷◌, length, All}
use Rattle.cnf_core.specs.Literal.{Literal}
use Rattle.cnf_core.specs.Spans.{cut, IsWithin}
use Rattle.cnf_core.specs.Lrat.{Entry}
use Rattle.lrat_check.specs.Slots.{Rises}
use Rattle.lrat_check.specs.declared.store.Slot.{Slot}

-- what a caller sees: the largest variable, the live clauses, the highest number so far, and how many lines and literals have room
pub record Stored : Type 0 where
  pub vars : ℕ
  pub live : List Entry
  pub last : ℕ
  pub lines_left : ℕ
  pub lits_left : ℕ

-- the live clauses, in the order of their numbers
abbrev pub live_of : List Literal → List Slot → List Entry
live_of lits [] = []
live_of lits (s ∷ ss) = if s.live then record { id = s.id; lits = cut lits s.span } ∷ live_of lits ss else live_of lits ss

-- numbers rise up to the last one, clauses lie within the literals, and variables are in range
pub record Tidy (vars last : ℕ) (lits : List Literal) (slots : List Slot) : Type 0 where
  pub rises : Rises slots
  pub newest : All (λ s. s.id ≤ last) slots
  pub spans : All (λ s. IsWithin (length lits) s.span) slots
  pub in_range : All (λ l. l.variable ≤ vars) lits
