-- What the answers of a call say.
use Rattle.std.specs.Prelude.{◌≡◌, ℕ, ◌-◌, ◌<◌, Bool, false, List, [], ◌∷◌, ◌++◌, map, filter, length, slice_index_or, Option, ⊤}
use Rattle.cnf_core.specs.Literal.{Literal, negated, Solves, HaveNoSolution}
use Rattle.cnf_core.specs.Lrat.{Runs, start, Refutes}
use Rattle.cnf_core.specs.declared.Line.{Line}
use Rattle.proof_lines.specs.Sinks.{Tells, IsAddition}
use Rattle.sat_core.specs.Calls.{stands}
use Rattle.sat_core.specs.declared.answer.Answer.{Answer}
use Rattle.sat_core.specs.declared.answer.Answer.TheVariants.{Model, Refuted, Spent}

-- the value of a variable, where that of variable 1 is the first
abbrev pub valuation : List Bool → ℕ → Bool
valuation values n = slice_index_or values (n - 1) false

-- the clause of one literal
abbrev pub unit : Literal → List Literal
unit l = l ∷ []

-- the values are those of all variables, and make each clause and each assumption true
pub record IsModel (vars : ℕ) (clauses : List (List Literal)) (assumptions : List Literal) (values : List Bool) : Type 0 where
  pub long : length values ≡ vars
  pub clauses_true : Solves (valuation values) clauses
  pub assumptions_true : Solves (valuation values) (map unit assumptions)

-- some of the assumptions, in their order, which can't be made true together with the clauses
pub record IsCore (clauses : List (List Literal)) (assumptions core : List Literal) : Type 0 where
  pub part : (test : Literal → Bool) × (core ≡ filter test assumptions)
  pub impossible : HaveNoSolution (clauses ++ map unit core)

-- the call's answer, by its cases: `limit` is the number of counted conflicts at which it gives up
abbrev pub IsAnswer : ℕ → List (List Literal) → List Literal → ℕ → Answer → Type 0
IsAnswer vars clauses assumptions limit (Model conflicts values) = IsModel vars clauses assumptions values × (conflicts < limit)
IsAnswer vars clauses assumptions limit (Refuted conflicts core) = IsCore clauses assumptions core × (conflicts < limit)
IsAnswer vars clauses assumptions limit (Spent conflicts) = conflicts ≡ limit

abbrev pub conflicts_of : Answer → ℕ
conflicts_of (Model conflicts values) = conflicts
conflicts_of (Refuted conflicts core) = conflicts
conflicts_of (Spent conflicts) = conflicts

-- the new lines pass in turn after the clauses, and what they add has the numbers that follow
pub record NewLines (vars : ℕ) (clauses : List (List Literal)) (was is : List Line) : Type 0 where
  pub new : List Line
  pub appended : is ≡ was ++ new
  pub learnt : List (List Literal)
  pub closed : Bool
  pub pass : Runs vars (start clauses) new (stands (clauses ++ learnt) closed)

-- the new lines pass, and the last of them adds the clause of the negated core
pub record CoreLines (vars : ℕ) (clauses : List (List Literal)) (core : List Literal) (was is : List Line) : Type 0 where
  pub new : List Line
  pub last : Line
  pub appended : is ≡ was ++ (new ++ last ∷ [])
  pub learnt : List (List Literal)
  pub closed : Bool
  pub pass : Runs vars (start clauses) (new ++ last ∷ []) (stands (clauses ++ learnt) closed)
  pub id : ℕ
  pub hints : List ℕ
  pub ends : IsAddition id (map negated core) hints last

-- what a refuted call leaves at a sink
abbrev pub ToldCore : ℕ → List (List Literal) → Option (List Line) → Option (List Line) → Answer → Type 0
ToldCore vars clauses was is (Model conflicts values) = ⊤
ToldCore vars clauses was is (Refuted conflicts core) = Tells was is (CoreLines vars clauses core)
ToldCore vars clauses was is (Spent conflicts) = ⊤

-- the lines of a sink that had none refute the clauses where the core is empty
abbrev pub EmptyCoreRefutes : Type 0
EmptyCoreRefutes = (vars : ℕ) (clauses : List (List Literal)) (lines : List Line) → CoreLines vars clauses [] [] lines → Refutes vars clauses lines
