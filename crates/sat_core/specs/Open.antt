-- How many literals of a clause aren't false, and what is made of it.
use Rattle.std.specs.Prelude.{◌≡◌, ℕ, ◌+◌, ◌<◌, Bool, true, false, List, [], ◌∷◌, length}
use Rattle.cnf_core.specs.Literal.{Literal}
use Rattle.cnf_core.specs.Lrat.{open_lits}
use Rattle.sat_core.specs.Trailed.{IsConflict, clause_in, is_satisfied}
use Rattle.sat_core.specs.Watching.{AreOpen, IsOff, Watching, pair_at}
use Rattle.sat_core.specs.declared.watches.Pair.{Pair}
use Rattle.sat_core.specs.declared.propagate.Open.{Open}
use Rattle.sat_core.specs.declared.propagate.Open.TheVariants.{Nothing, One, Two}
use Rattle.sat_core.specs.declared.propagate.Settled.{Settled}
use Rattle.sat_core.specs.declared.propagate.Settled.TheVariants.{Falsified, Satisfied, Left}
use Rattle.sat_core.specs.declared.propagate.Look.{Look}
use Rattle.sat_core.specs.declared.propagate.Look.TheVariants.{Kept, Gone, Ended}

abbrev pub IsOpen : List Literal → List Literal → Open → Type 0
IsOpen falses clause Nothing = open_lits falses clause ≡ []
IsOpen falses clause (One l) = open_lits falses clause ≡ l ∷ []
IsOpen falses clause (Two pair) = AreOpen falses clause pair

-- the clause at `k` is falsified, has a true literal, or has two that aren't false
abbrev pub IsSettlement : List (List Literal) → List Literal → ℕ → Settled → Type 0
IsSettlement clauses falses k Falsified = IsConflict clauses falses k
IsSettlement clauses falses k Satisfied = is_satisfied falses (clause_in clauses k) ≡ true
IsSettlement clauses falses k (Left pair) = AreOpen falses (clause_in clauses k) pair

-- the clause at `k` has a true literal, doesn't watch the literal at the place `p`, or is falsified
abbrev pub IsLook : List (List Literal) → List Literal → ℕ → Watching → ℕ → Look → Type 0
IsLook clauses falses p w k Kept = is_satisfied falses (clause_in clauses k) ≡ true
IsLook clauses falses p w k Gone = k < length w.pairs → IsOff p (pair_at w.pairs k)
IsLook clauses falses p w k Ended = IsConflict clauses falses k

-- the clause at `k` is the last that is watched, or it is falsified
abbrev pub IsNext : List (List Literal) → List Literal → ℕ → List Pair → Bool → Type 0
IsNext clauses falses k pairs true = length pairs ≡ k + 1
IsNext clauses falses k pairs false = IsConflict clauses falses k
