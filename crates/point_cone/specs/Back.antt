-- From the cone back to the whole system.
use Rattle.std.specs.Prelude.{◌≡◌, ℕ, ◌<◌, ◌⊎◌, Bool, false, Option, Some, None, List, map, length, slice_index_or, Contains}
use Rattle.bit_system.specs.declared.system.StateInfo.{StateInfo}
use Rattle.bit_system.specs.declared.ladder.StateLit.{StateLit}
use Rattle.bit_system.specs.declared.ladder.Lemma.{Lemma}

-- the literal on the state bit's place in the whole system
abbrev pub whole_lit : List ℕ → StateLit → StateLit
whole_lit states l = record { state = slice_index_or states l.state 0; positive = l.positive }

-- the lemma on the places in the whole system
abbrev pub whole_lemma : List ℕ → Lemma → Lemma
whole_lemma states l = record { level = l.level; lits = map (whole_lit states) l.lits }

-- the starting value, false where there is none
abbrev pub value_of_start : Option Bool → Bool
value_of_start None = false
value_of_start (Some b) = b

abbrev pub starting : List StateInfo → List Bool
starting states = map (λ s. value_of_start s.start) states

-- the place is one of these
pub record IsOne (places : List ℕ) (count n : ℕ) : Type 0 where
  pub at : ℕ
  pub below : at < count
  pub is : slice_index_or places at 0 ≡ n

-- the first so many places have these values, and the others are as before
pub record IsPut (places : List ℕ) (some : List Bool) (count : ℕ) (old new : List Bool) : Type 0 where
  pub size : length new ≡ length old
  pub put : (k : ℕ) → k < count → slice_index_or new (slice_index_or places k 0) false ≡ slice_index_or some k false
  pub each : (n : ℕ) → IsOne places count n ⊎ (slice_index_or new n false ≡ slice_index_or old n false)

-- away from these places the values are the same
abbrev pub AgreeElsewhere : List ℕ → List Bool → List Bool → Type 0
AgreeElsewhere places old new = (n : ℕ) → (Contains places n → ⊥) → slice_index_or new n false ≡ slice_index_or old n false
