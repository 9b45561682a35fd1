-- Clauses over dense variables.
use Rattle.std.specs.Prelude.{◌≡◌, ℕ, ◌<◌, ◌⊎◌, List, ◌++◌, map, length, slice_index_or, Contains, All as Each}
use Rattle.cnf_core.specs.Literal.{Literal}
use Rattle.clause_names.specs.Naming.{IsNaming, named}
use Rattle.clause_names.specs.declared.numbering.Numbered.{Numbered}

-- the number stands for the variable
pub record IsNumberOf (names : List ℕ) (variable number : ℕ) : Type 0 where
  pub below : number < length names
  pub stands : (d : ℕ) → slice_index_or names number d ≡ variable

-- the number stands for the literal's variable
pub record IsNumbered (names : List ℕ) (literal number : Literal) : Type 0 where
  pub below : number.variable < length names
  pub same : named names number ≡ literal

pub record ClauseIsNumbered (names : List ℕ) (clause numbers : List Literal) : Type 0 where
  pub below : Each (λ l. l.variable < length names) numbers
  pub same : map (named names) numbers ≡ clause

pub record AreNumbered (names : List ℕ) (clauses numbered : List (List Literal)) : Type 0 where
  pub below : Each (λ c. Each (λ l. l.variable < length names) c) numbered
  pub same : map (map (named names)) numbered ≡ clauses

-- the variable of a literal of the clause
abbrev pub IsInClause : List Literal → ℕ → Type 0
IsInClause clause n = (l : Literal) × Contains clause l × (n ≡ l.variable)

-- the variable of a literal of one of the clauses
abbrev pub IsInClauses : List (List Literal) → ℕ → Type 0
IsInClauses clauses n = (c : List Literal) × Contains clauses c × IsInClause c n

-- names are added behind the old ones, of such variables alone
pub record Grows (old new : List ℕ) (IsSuch : ℕ → Type 0) : Type 0 where
  pub more : List ℕ
  pub longer : new ≡ old ++ more
  pub naming : IsNaming old → IsNaming new
  pub such : Each IsSuch more

-- the clauses over dense variables are these, by the names, which but for 0 are of their variables alone
pub record IsNumbering (clauses : List (List Literal)) (n : Numbered) : Type 0 where
  pub naming : IsNaming n.names.keys
  pub numbered : AreNumbered n.names.keys clauses n.clauses
  pub alone : Each (λ k. (k ≡ 0) ⊎ IsInClauses clauses k) n.names.keys
