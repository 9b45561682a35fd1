-- The false literals of a line, as a list and as marks.
use Rattle.std.specs.Prelude.{◌≡◌, ℕ, ◌+◌, ◌*◌, ◌≤◌, Bool, false, ◌==◌, if◌then◌else◌, List, slice_index_or, length, count_by, All}
use Rattle.std.specs.List.{list_any}
use Rattle.cnf_core.specs.Literal.{Literal}

-- what a caller sees: the largest variable, and the false literals in the order in which they became false
pub record Assigned : Type 0 where
  pub vars : ℕ
  pub falses : List Literal

-- where a literal's mark is
abbrev pub place_of : Literal → ℕ
place_of l = 2 * l.variable + (if l.positive then 0 else 1)

-- whether one of the literals has its mark there
abbrev pub stands_at : List Literal → ℕ → Bool
stands_at falses k = list_any (λ m. place_of m == k) falses

-- the marks are those of the trail's literals, each once
pub record Kept (vars : ℕ) (marks : List Bool) (trail : List Literal) (room : ℕ) : Type 0 where
  pub long : length marks ≡ 2 * vars + 2
  pub marked : (k : ℕ) → slice_index_or marks k false ≡ stands_at trail k
  pub counted : length trail ≡ count_by (λ b. b) marks
  pub within : All (λ l. l.variable ≤ vars) trail
  pub roomy : room ≡ 2 * vars + 2
