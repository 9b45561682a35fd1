-- What was made true, in order, and why.
use Rattle.std.specs.Prelude.{◌≡◌, ℕ, ◌+◌, ◌<◌, ◌≤◌, Bool, true, false, List, [], ◌∷◌, ◌++◌, take, length, Option, Some, None, slice_index_or, drop, filter, IsSome, All, ⊤}
use Rattle.std.specs.List.{list_any}
use Rattle.cnf_core.specs.Literal.{Literal, negated}
use Rattle.cnf_core.specs.Lrat.{is_false, open_lits, HasGoodVars}
use Rattle.sat_core.specs.Assigned.{no_literal, negative}

-- the false literals in the order in which they became so, and beside each the place of the clause that made it so, if one did
pub record Trailed : Type 0 where
  pub vars : ℕ
  pub falses : List Literal
  pub reasons : List (Option ℕ)

abbrev pub falsified_at : Trailed → ℕ → Literal
falsified_at t k = slice_index_or t.falses k no_literal

abbrev pub reason_at : Trailed → ℕ → Option ℕ
reason_at t k = slice_index_or t.reasons k None

abbrev pub pushed : Trailed → Literal → Option ℕ → Trailed
pushed t l reason = record { vars = t.vars; falses = t.falses ++ l ∷ []; reasons = t.reasons ++ reason ∷ [] }

abbrev pub cut_to : ℕ → Trailed → Trailed
cut_to n t = record { vars = t.vars; falses = take n t.falses; reasons = take n t.reasons }

abbrev pub clause_in : List (List Literal) → ℕ → List Literal
clause_in clauses k = slice_index_or clauses k []

-- the clause at `k` leaves only this literal, which is why its negation became false
pub record IsReason (clauses : List (List Literal)) (falses : List Literal) (falsified : Literal) (k : ℕ) : Type 0 where
  pub literal : Literal
  pub there : k < length clauses
  pub unit : open_lits falses (clause_in clauses k) ≡ literal ∷ []
  pub negation : falsified ≡ negated literal

-- the variables are distinct and within range, and each reason is one
pub record Good (clauses : List (List Literal)) (t : Trailed) : Type 0 where
  pub good_vars : HasGoodVars t.vars t.falses
  pub positive : All (λ l. 0 < l.variable) t.falses
  pub same_length : length t.reasons ≡ length t.falses
  pub reasoned : (i k : ℕ) → i < length t.falses → reason_at t i ≡ Some k → IsReason clauses (take i t.falses) (falsified_at t i) k

-- from `floor` on nothing was decided or assumed
abbrev pub AreImplied : Trailed → ℕ → Type 0
AreImplied t floor = (i : ℕ) → floor ≤ i → i < length t.falses → IsSome (reason_at t i)

-- nothing above `d` was decided
pub record IsLastDecision (t : Trailed) (floor d : ℕ) : Type 0 where
  pub low : floor ≤ d
  pub there : d < length t.falses
  pub decided : reason_at t d ≡ None
  pub above : AreImplied t (d + 1)

-- the seen literals from `floor` up to `at`
abbrev pub seen_from : List Literal → ℕ → ℕ → Trailed → List Literal
seen_from seen floor at t = filter (is_false seen) (drop floor (take at t.falses))

-- no literal is left
pub record IsConflict (clauses : List (List Literal)) (falses : List Literal) (k : ℕ) : Type 0 where
  pub there : k < length clauses
  pub closed : open_lits falses (clause_in clauses k) ≡ []

-- neither the literal nor its negation is false
pub record IsFree (vars : ℕ) (falses : List Literal) (l : Literal) : Type 0 where
  pub within : l.variable ≤ vars
  pub not_false : is_false falses l ≡ false
  pub not_true : is_false falses (negated l) ≡ false

-- two literals are left, or one that is true
abbrev pub AreQuiet : List Literal → List Literal → Type 0
AreQuiet falses [] = ⊥
AreQuiet falses (l ∷ []) = is_false falses (negated l) ≡ true
AreQuiet falses (l ∷ m ∷ more) = ⊤

-- the clause has no literal to propagate, and isn't falsified
abbrev pub IsQuiet : List Literal → List Literal → Type 0
IsQuiet falses clause = AreQuiet falses (open_lits falses clause)

-- the clause has a true literal
abbrev pub is_satisfied : List Literal → List Literal → Bool
is_satisfied falses clause = list_any (λ l. is_false falses (negated l)) clause

-- the first stays the front of the second
pub record Extends (t u : Trailed) : Type 0 where
  pub vars : u.vars ≡ t.vars
  pub longer : length t.falses ≤ length u.falses
  pub front : take (length t.falses) u.falses ≡ t.falses

-- the values are those of the trail
abbrev pub Agree : ℕ → List Literal → (ℕ → Bool) → Type 0
Agree vars falses v = (n : ℕ) → 0 < n → n ≤ vars → v n ≡ is_false falses (negative n)
