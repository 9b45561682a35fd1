-- A start like another state.
use Rattle.std.specs.Prelude.{◌≡◌, ℕ, ◌<◌, Bool, false, List, length, slice_index_or, Option, Some, None}
use Rattle.bit_system.specs.declared.system.StateInfo.{StateInfo}
use Rattle.bit_system.specs.Machine.{Machine, IsState}

abbrev pub or_else : Option Bool → Bool → Bool
or_else None v = v
or_else (Some b) v = b

-- the starting values, and those of the state for the other bits
pub record IsLike (m : Machine) (state new : List Bool) : Type 0 where
  pub is_state : IsState m new
  pub has : (k : ℕ) (d : StateInfo) → k < length m.states →
      slice_index_or new k false ≡ or_else (slice_index_or m.states k d).start (slice_index_or state k false)
