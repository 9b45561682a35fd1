-- Which two literals of each clause are watched, and where the clauses that watch a literal are found.
use Rattle.std.specs.Prelude.{◌≡◌, ◌≢◌, ℕ, ◌-◌, ◌<◌, ◌≤◌, ◌⊎◌, true, false, List, [], ◌∷◌, ◌++◌, length, slice_index_or, slice_set}
use Rattle.std.specs.List.{swap_remove}
use Rattle.cnf_core.specs.Literal.{Literal}
use Rattle.cnf_core.specs.Lrat.{is_false, open_lits}
use Rattle.sat_core.specs.Assigned.{no_literal, place_of}
use Rattle.sat_core.specs.Closing.{Within}
use Rattle.sat_core.specs.Fresh.{AtDecisions}
use Rattle.sat_core.specs.Trailed.{Trailed, clause_in, is_satisfied}
use Rattle.sat_core.specs.declared.watches.Pair.{Pair}

-- the clauses of each literal, by the literal's place, and the watched literals of each clause
pub record Watching : Type 0 where
  pub lists : List (List ℕ)
  pub pairs : List Pair

-- a pair for where there is none
abbrev pub no_pair : Pair
no_pair = record { first = no_literal; second = no_literal }

abbrev pub pair_at : List Pair → ℕ → Pair
pair_at pairs k = slice_index_or pairs k no_pair

abbrev pub list_at : List (List ℕ) → ℕ → List ℕ
list_at lists p = slice_index_or lists p []

-- the list of one literal has one more clause
abbrev pub listed : List (List ℕ) → ℕ → ℕ → List (List ℕ)
listed lists p clause = slice_set lists p (list_at lists p ++ clause ∷ [])

-- the list of one literal has lost the clause at a place
abbrev pub unlisted : List (List ℕ) → ℕ → ℕ → List (List ℕ)
unlisted lists p at = slice_set lists p (swap_remove (list_at lists p) at 0)

-- the list has the clause at the place `from` or later
pub record StandsFrom (from clause : ℕ) (list : List ℕ) : Type 0 where
  pub at : ℕ
  pub low : from ≤ at
  pub inside : at < length list
  pub here : slice_index_or list at 0 ≡ clause

-- two literals of the clause at different places: where neither is false, two are left
pub record IsPair (clause : List Literal) (pair : Pair) : Type 0 where
  pub first_in : is_false clause pair.first ≡ true
  pub second_in : is_false clause pair.second ≡ true
  pub two : (falses : List Literal) → is_false falses pair.first ≡ false → is_false falses pair.second ≡ false → 2 ≤ length (open_lits falses clause)

-- and neither is false
pub record AreOpen (falses clause : List Literal) (pair : Pair) : Type 0 where
  pub two : IsPair clause pair
  pub first_open : is_false falses pair.first ≡ false
  pub second_open : is_false falses pair.second ≡ false

-- where a watched literal is among the first false ones, or there are no two, the clause has a true literal
pub record IsWatched (clause : List Literal) (pair : Pair) (front falses : List Literal) : Type 0 where
  pub first : is_false front pair.first ≡ true → is_satisfied falses clause ≡ true
  pub second : is_false front pair.second ≡ true → is_satisfied falses clause ≡ true
  pub two : IsPair clause pair ⊎ (is_satisfied falses clause ≡ true)

abbrev pub AreWatched : List (List Literal) → List Pair → List Literal → List Literal → Type 0
AreWatched clauses pairs front falses = (k : ℕ) → k < length pairs → IsWatched (clause_in clauses k) (pair_at pairs k) front falses

-- the watched literals are the clause's, and their lists have it
pub record IsListed (clause : List Literal) (pair : Pair) (lists : List (List ℕ)) (k : ℕ) : Type 0 where
  pub first_in : is_false clause pair.first ≡ true
  pub second_in : is_false clause pair.second ≡ true
  pub first_listed : StandsFrom 0 k (list_at lists (place_of pair.first))
  pub second_listed : StandsFrom 0 k (list_at lists (place_of pair.second))

abbrev pub AreListed : List (List Literal) → Watching → Type 0
AreListed clauses w = (k : ℕ) → k < length w.pairs → IsListed (clause_in clauses k) (pair_at w.pairs k) w.lists k

-- neither of the two has its list at this place
pub record IsOff (p : ℕ) (pair : Pair) : Type 0 where
  pub first : place_of pair.first ≢ p
  pub second : place_of pair.second ≢ p

-- the literal is one of the two
abbrev pub IsOneOf : Pair → Literal → Type 0
IsOneOf pair l = (pair.first ≡ l) ⊎ (pair.second ≡ l)

-- watched literals are exchanged only for such as aren't false
pub record Rewatches (clauses : List (List Literal)) (falses : List Literal) (w v : Watching) : Type 0 where
  pub same_length : length v.pairs ≡ length w.pairs
  pub same_places : length v.lists ≡ length w.lists
  pub pairs : (k : ℕ) → k < length v.pairs → (pair_at v.pairs k ≡ pair_at w.pairs k) ⊎ AreOpen falses (clause_in clauses k) (pair_at v.pairs k)
  pub listed : AreListed clauses w → AreListed clauses v

-- the last two literals of a clause
abbrev pub ends_of : List Literal → Pair
ends_of clause = record { first = slice_index_or clause (length clause - 2) no_literal; second = slice_index_or clause (length clause - 1) no_literal }

-- the clauses from the place `known` on have two literals at their ends that aren't false
abbrev pub AreReady : List (List Literal) → ℕ → List Literal → Type 0
AreReady clauses known falses = (k : ℕ) → known ≤ k → k < length clauses → AreOpen falses (clause_in clauses k) (ends_of (clause_in clauses k))

-- the first clauses are watched, and what propagation reached left them in order
pub record IsEntered (clauses : List (List Literal)) (falses more : List Literal) (w v : Watching) : Type 0 where
  pub longer : length w.pairs ≤ length v.pairs
  pub within : length v.pairs ≤ length clauses
  pub listed : AreListed clauses w → AreListed clauses v
  pub watched : (front : List Literal) → Within front falses → AreWatched clauses w.pairs front falses → AreWatched clauses v.pairs front more
  pub settled : (front : List Literal) → Within front falses → AreReady clauses (length w.pairs) front → AreWatched clauses w.pairs front front → AreWatched clauses v.pairs front front

-- before each decision the watched literals were in order
abbrev pub AreKept : List (List Literal) → List Pair → Trailed → ℕ → Type 0
AreKept clauses pairs t floor = AtDecisions (λ falses. AreWatched clauses pairs falses falses) t floor

-- before each decision the clauses that aren't watched yet had two literals at their ends that weren't false
abbrev pub AreWaiting : List (List Literal) → ℕ → Trailed → ℕ → Type 0
AreWaiting clauses known t floor = AtDecisions (AreReady clauses known) t floor
