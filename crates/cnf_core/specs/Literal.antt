-- Literals, clauses, and what values of the variables make true.
use Rattle.std.specs.Prelude.{◌≡◌, ℕ, ◌≤◌, Bool, true, not, cond, ◌&&◌, ◌==◌, List, All}
use Rattle.std.specs.List.{list_any}

-- a variable, or its negation
pub record Literal : Type 0 where
  pub variable : ℕ
  pub positive : Bool

-- the opposite literal
abbrev pub negated : Literal → Literal
negated l = record { variable = l.variable; positive = not l.positive }

-- whether both are positive, or neither is
abbrev pub same_sign : Bool → Bool → Bool
same_sign a b = cond a b (not b)

-- whether the literals are the same
abbrev pub same_literal : Literal → Literal → Bool
same_literal a b = (a.variable == b.variable) && same_sign a.positive b.positive

-- whether the values make the literal true
abbrev pub is_true : (ℕ → Bool) → Literal → Bool
is_true v l = cond l.positive (v l.variable) (not (v l.variable))

-- whether the values make one of the clause's literals true
abbrev pub clause_true : (ℕ → Bool) → List Literal → Bool
clause_true v clause = list_any (is_true v) clause

-- the values make every clause true
abbrev pub Solves : (ℕ → Bool) → List (List Literal) → Type 0
Solves v clauses = All (λ c. clause_true v c ≡ true) clauses

-- no values make every clause true
abbrev pub HaveNoSolution : List (List Literal) → Type 0
HaveNoSolution clauses = (v : ℕ → Bool) → Solves v clauses → ⊥

-- the variables of all clauses are at most `vars`
abbrev pub HaveVarsUpTo : ℕ → List (List Literal) → Type 0
HaveVarsUpTo vars clauses = All (λ c. All (λ l. l.variable ≤ vars) c) clauses
