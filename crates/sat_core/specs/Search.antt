-- One step of the search.
use Rattle.std.specs.Prelude.{◌≡◌, ℕ, ◌+◌, ◌*◌, ◌-◌, ◌<◌, ◌≤◌, Bool, true, List, [], ◌∷◌, ◌++◌, take, drop, length, map, filter, All}
use Rattle.cnf_core.specs.Literal.{Literal, negated}
use Rattle.sat_core.specs.Closing.{IsShown}
use Rattle.sat_core.specs.Fresh.{HasNoRepeats, IsNew, IsSettled}
use Rattle.sat_core.specs.Trailed.{Trailed, Good, is_satisfied}
use Rattle.sat_core.specs.Watching.{Watching, AreListed, AreWatched, AreKept, AreWaiting}
use Rattle.sat_core.specs.declared.analysis.Shown.{Shown}
use Rattle.sat_core.specs.declared.search.Search.{Search}
use Rattle.sat_core.specs.declared.search.Step.{Step}
use Rattle.sat_core.specs.declared.search.Step.TheVariants.{Learnt, Refuted, Decided, Satisfied}

-- the clauses that were added, and those learnt since the last call began
abbrev pub added_in : Search → List (List Literal)
added_in s = take s.added s.clauses

abbrev pub learnt_in : Search → List (List Literal)
learnt_in s = drop s.added s.clauses

abbrev pub vars_in : Search → ℕ
vars_in s = s.trail.vars

-- how many literals may still become false
abbrev pub room_in : Search → ℕ
room_in s = 2 * s.trail.vars + 2 - length s.trail.falses

-- the trail is good and begins with the assumptions, the first clauses are watched, and what they leave is propagated up to the place `done`
pub record IsSearched (clauses : List (List Literal)) (t : Trailed) (w : Watching) (done : ℕ) (assumptions : List Literal) : Type 0 where
  pub good : Good clauses t
  pub long : length assumptions ≤ length t.falses
  pub settled : IsSettled clauses t (length assumptions)
  pub assumed : take (length assumptions) t.falses ≡ map negated assumptions
  pub known : length w.pairs ≤ length clauses
  pub listed : AreListed clauses w
  pub within : done ≤ length t.falses
  pub watched : AreWatched clauses w.pairs (take done t.falses) t.falses
  pub kept : AreKept clauses w.pairs t (length assumptions)
  pub waiting : AreWaiting clauses (length w.pairs) t (length assumptions)

abbrev pub Searched : List Literal → Search → Type 0
Searched assumptions s = IsSearched s.clauses s.trail s.watches s.done assumptions

-- one more clause, which the others show, and which is none of them
pub record Learns (assumptions : List Literal) (was is : Search) (id : ℕ) (shown : Shown) : Type 0 where
  pub number : id ≡ length was.clauses + 1
  pub shows : IsShown was.trail.vars was.clauses shown.lits.items shown.hints.items
  pub clauses : is.clauses ≡ was.clauses ++ shown.lits.items ∷ []
  pub fresh : All HasNoRepeats was.clauses → IsNew assumptions was.clauses shown.lits.items

-- the clauses show that some of the assumptions are false
pub record Ends (assumptions : List Literal) (was is : Search) (id : ℕ) (shown : Shown) : Type 0 where
  pub number : id ≡ length was.clauses + 1
  pub shows : IsShown was.trail.vars was.clauses shown.lits.items shown.hints.items
  pub part : (test : Literal → Bool) × (shown.lits.items ≡ filter test (map negated assumptions))
  pub clauses : is.clauses ≡ was.clauses

abbrev pub IsStep : List Literal → Search → Search → Step → Type 0
IsStep assumptions was is (Learnt id shown) = Learns assumptions was is id shown
IsStep assumptions was is (Refuted id shown) = Ends assumptions was is id shown
IsStep assumptions was is Decided = (is.clauses ≡ was.clauses) × (room_in is < room_in was)
IsStep assumptions was is Satisfied = (is.clauses ≡ was.clauses) × All (λ c. is_satisfied is.trail.falses c ≡ true) is.clauses
