-- Walks that hit.
use Rattle.std.specs.Prelude.{◌≡◌, ℕ, ◌+◌, ◌<◌, Bool, true, List, [], ◌∷◌, length}
use Rattle.bit_system.specs.Machine.{Machine, IsInput, IsWalk, HitsAt, hit_literal, next_state, value_in_step}
use Rattle.ic3_frames.specs.declared.walk.Walk.{Walk}

-- from the state these inputs, one after another, lead to a hit under the last one
abbrev pub LeadsToHit : Machine → ℕ → List Bool → List (List Bool) → Type 0
LeadsToHit m point state [] = ⊥
LeadsToHit m point state (input ∷ []) = IsInput m input × (value_in_step m state input (hit_literal m point) ≡ true)
LeadsToHit m point state (input ∷ next ∷ more) = IsInput m input × LeadsToHit m point (next_state m state input) (next ∷ more)

-- the walk begins at a permitted start, hits in its last step, and in none before
pub record EndsAtFirstHit (m : Machine) (point : ℕ) (walk : Walk) : Type 0 where
  pub is_walk : IsWalk m walk.start walk.lines
  pub last : ℕ
  pub long : length walk.lines ≡ last + 1
  pub hit : HitsAt m point walk.start walk.lines last
  pub first : (t : ℕ) → t < last → HitsAt m point walk.start walk.lines t → ⊥
