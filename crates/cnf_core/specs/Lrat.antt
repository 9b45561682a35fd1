-- Lines of a proof, by the LRAT paper (Cruz-Filipe, Heule, Hunt, Kaufmann, Schneider-Kamp 2017), without RAT:
-- which lines pass after which, by reverse unit propagation along the hints.
use Rattle.std.specs.Prelude.{◌≡◌, ℕ, ◌+◌, ◌<◌, ◌≤◌, ◌≢◌, Bool, true, false, not, ◌==◌, ◌||◌, if◌then◌else◌, List, [], ◌∷◌, ◌++◌, filter, All, AllPairs, Option, Some, None, Result, Ok, Err, length}
use Rattle.std.specs.List.{list_any}
use Rattle.cnf_core.specs.Literal.{Literal, negated, same_literal, clause_true, Solves, HaveNoSolution}
use Rattle.cnf_core.specs.declared.Ending.{Ending}
use Rattle.cnf_core.specs.declared.Ending.TheVariants.{Falsified, NoHint, NotUnit, RanOut}
use Rattle.cnf_core.specs.declared.Line.{Line}
use Rattle.cnf_core.specs.declared.Line.TheVariants.{Add, Delete}

-- a clause with its number
pub record Entry : Type 0 where
  pub id : ℕ
  pub lits : List Literal

-- what stands before a line: the live clauses, the highest number so far, and whether an empty clause was added
pub record State : Type 0 where
  pub live : List Entry
  pub last : ℕ
  pub closed : Bool

-- the clause with this number
abbrev pub clause_at : List Entry → ℕ → Option (List Literal)
clause_at [] id = None
clause_at (e ∷ es) id = if e.id == id then Some e.lits else clause_at es id

-- whether the literal is among the false ones
abbrev pub is_false : List Literal → Literal → Bool
is_false falses l = list_any (same_literal l) falses

-- the clause's literals, by position, that aren't among the false ones: one that stands twice counts twice
abbrev pub open_lits : List Literal → List Literal → List Literal
open_lits falses clause = filter (λ l. not (is_false falses l)) clause

-- the false literals once `l` is true
abbrev pub make_true : List Literal → Literal → List Literal
make_true falses l = if is_false falses (negated l) then falses else falses ++ negated l ∷ []

-- a hint's clause, by its open literals: `next` goes on where it makes one literal true
abbrev pub read_open : ℕ → List Literal → (Literal → Ending) → Ending
read_open h [] next = Falsified
read_open h (l ∷ []) next = next l
read_open h (l ∷ m ∷ more) next = NotUnit h

-- a hint, by the clause that its number has
abbrev pub read_hint : ℕ → Option (List Literal) → List Literal → (List Literal → Ending) → Ending
read_hint h None falses next = NoHint h
read_hint h (Some clause) falses next = read_open h (open_lits falses clause) (λ l. next (make_true falses l))

-- how the hints end, read in order with these literals false
abbrev pub read_hints : List Entry → List Literal → List ℕ → Ending
read_hints live falses [] = RanOut
read_hints live falses (h ∷ hs) = read_hint h (clause_at live h) falses (λ more. read_hints live more hs)

-- the variables are at most `vars`, and distinct
abbrev pub HasGoodVars : ℕ → List Literal → Type 0
HasGoodVars vars lits = All (λ l. l.variable ≤ vars) lits × AllPairs (λ l m. l.variable ≢ m.variable) lits

-- reverse unit propagation: an addition that may stand after `s`
pub record Rup (vars : ℕ) (s : State) (id : ℕ) (lits : List Literal) (hints : List ℕ) : Type 0 where
  pub new_id : s.last < id
  pub good_vars : HasGoodVars vars lits
  pub closes : read_hints s.live lits hints ≡ Falsified

-- the entries but for those with this number
abbrev pub remove_clause : List Entry → ℕ → List Entry
remove_clause live id = filter (λ e. not (e.id == id)) live

-- the end of a deletion at this number, or what the rest of it gives
abbrev pub delete_one : ℕ → Option (List Literal) → Result (List Entry) ℕ → Result (List Entry) ℕ
delete_one id None rest = Err id
delete_one id (Some clause) rest = rest

-- the clauses that are left once those with these numbers are removed in order, or the first number that no clause has then
abbrev pub delete_all : List Entry → List ℕ → Result (List Entry) ℕ
delete_all live [] = Ok live
delete_all live (id ∷ ids) = delete_one id (clause_at live id) (delete_all (remove_clause live id) ids)

-- whether the clause has no literal
abbrev pub is_empty : List Literal → Bool
is_empty [] = true
is_empty (l ∷ ls) = false

-- what stands after an addition
abbrev pub added : State → ℕ → List Literal → State
added s id lits = record { live = s.live ++ record { id = id; lits = lits } ∷ []; last = id; closed = s.closed || is_empty lits }

-- the line may stand after `s`, and `t` is what stands after it
abbrev pub Passes : ℕ → State → Line → State → Type 0
Passes vars s (Add id lits hints) t = Rup vars s id lits.items hints.items × (t ≡ added s id lits.items)
Passes vars s (Delete id ids) t =
    (live : List Entry) × (delete_all s.live ids.items ≡ Ok live) × (t ≡ record s { live = live })

-- every line passes in turn, from `s` to `t`
abbrev pub Runs : ℕ → State → List Line → State → Type 0
Runs vars s [] t = s ≡ t
Runs vars s (line ∷ lines) t = (r : State) × Passes vars s line r × Runs vars r lines t

-- every line passes in turn, and then an empty clause was added
abbrev pub Closes : ℕ → State → List Line → Type 0
Closes vars s [] = s.closed ≡ true
Closes vars s (line ∷ lines) = (t : State) × Passes vars s line t × Closes vars t lines

-- the clauses with their numbers, from `id` on
abbrev pub numbered : ℕ → List (List Literal) → List Entry
numbered id [] = []
numbered id (c ∷ cs) = record { id = id; lits = c } ∷ numbered (id + 1) cs

-- what stands before the first line
abbrev pub start : List (List Literal) → State
start clauses = record { live = numbered 1 clauses; last = length clauses; closed = false }

-- the lines pass after these clauses, and one of them is empty
abbrev pub Refutes : ℕ → List (List Literal) → List Line → Type 0
Refutes vars clauses lines = Closes vars (start clauses) lines

-- lines that refute clauses leave them no solution
abbrev pub RefutingIsSound : Type 0
RefutingIsSound =
    (vars : ℕ) (clauses : List (List Literal)) (lines : List Line) → Refutes vars clauses lines → HaveNoSolution clauses

-- one line without literals passes over the clauses: unit propagation alone falsifies one of them
abbrev pub IsPlain : ℕ → List (List Literal) → Type 0
IsPlain vars clauses = (id : ℕ) × (hints : List ℕ) × Rup vars (start clauses) id [] hints

-- plain clauses have no solution
abbrev pub PlainClausesAreUnsolvable : Type 0
PlainClausesAreUnsolvable = (vars : ℕ) (clauses : List (List Literal)) → IsPlain vars clauses → HaveNoSolution clauses

-- wherever the clauses are true, so is each live clause, and no empty clause was added
abbrev pub Follows : List (List Literal) → State → Type 0
Follows clauses s =
    (v : ℕ → Bool) → Solves v clauses → All (λ e. clause_true v e.lits ≡ true) s.live × (s.closed ≡ false)
