-- A system that has only what a point needs, and how its steps are those of the whole system.
use Rattle.std.specs.Prelude.{◌≡◌, ℕ, ◌+◌, ◌<◌, Bool, false, None, List, [], map, length, slice_index_or, AllPairs, All as Each}
use Rattle.bit_system.specs.declared.system.StateInfo.{StateInfo}
use Rattle.bit_system.specs.Machine.{Machine, IsMachine, IsState, IsInput, hit_literal, next_state, value_in_step}
use Rattle.bit_system.specs.Queries.{first_state}
use Rattle.point_cone.specs.Reaching.{IsNeeded}
use Rattle.point_cone.specs.declared.build.Cone.{Cone}

-- the values at these places
abbrev pub part : List ℕ → List Bool → List Bool
part places values = map (λ k. slice_index_or values k false) places

-- places below the count, each after the one before
pub record ArePlaces (count : ℕ) (places : List ℕ) : Type 0 where
  pub exist : Each (λ k. k < count) places
  pub rise : AllPairs (λ j k. j < k) places

-- the state bits at these places, without their names
abbrev pub info_at : List StateInfo → ℕ → StateInfo
info_at all s = record { name = []; start = (slice_index_or all s (record { name = []; start = None })).start }

abbrev pub infos_at : List StateInfo → List ℕ → List StateInfo
infos_at all places = map (info_at all) places

-- the point exists; the cone's state bits and inputs are some of the whole system's, and in each state and input of the whole system a step
-- of the cone is that step's part, and hits where it does
pub record IsCone (whole : Machine) (cone : Cone) : Type 0 where
  pub point : cone.point < length whole.hits
  pub valid : IsMachine cone.system
  pub states : ArePlaces (length whole.states) cone.states
  pub inputs : ArePlaces whole.graph.inputs cone.inputs
  pub needed : Each (λ s. IsNeeded whole cone.point (first_state whole + s)) cone.states
  pub state_count : length cone.system.states ≡ length cone.states
  pub input_count : cone.system.graph.inputs ≡ length cone.inputs
  pub hit_count : length cone.system.hits ≡ 1
  pub prelude : cone.system.prelude ≡ whole.prelude
  pub starts : (k : ℕ) (d : StateInfo) → k < length cone.states →
      (slice_index_or cone.system.states k d).start ≡ (slice_index_or whole.states (slice_index_or cone.states k 0) d).start
  pub steps : (state input : List Bool) → IsState whole state → IsInput whole input →
      next_state cone.system (part cone.states state) (part cone.inputs input) ≡ part cone.states (next_state whole state input)
  pub hits : (state input : List Bool) → IsState whole state → IsInput whole input →
      value_in_step cone.system (part cone.states state) (part cone.inputs input) (hit_literal cone.system 0) ≡ value_in_step whole state input (hit_literal whole cone.point)
