-- Obligations: cubes that lead to a hit, one after another.
use Rattle.std.specs.Prelude.{◌≡◌, ℕ, Bool, true, List, [], ◌∷◌}
use Rattle.bit_system.specs.declared.ladder.StateLit.{StateLit}
use Rattle.bit_system.specs.Machine.{Machine, IsState, IsInput, IsStart, hit_literal, next_state, value_in_step}
use Rattle.generalise.specs.Cubes.{in_cube, IsCube}
use Rattle.ic3_frames.specs.declared.obligation.Obligation.{Obligation}

-- a cube, one of its states, an input, and a level, which is 0 only where the state is a start
pub record IsObligation (m : Machine) (o : Obligation) : Type 0 where
  pub is_state : IsState m o.state
  pub is_input : IsInput m o.input
  pub is_cube : IsCube m o.cube
  pub inside : in_cube o.state o.cube ≡ true
  pub starts : o.level ≡ 0 → IsStart m o.state

-- the state under the input goes to the next obligation's cube, or hits where there is none
abbrev pub Meets : Machine → ℕ → List Obligation → List Bool → List Bool → Type 0
Meets m point [] state input = value_in_step m state input (hit_literal m point) ≡ true
Meets m point (o ∷ os) state input = in_cube (next_state m state input) o.cube ≡ true

-- each obligation's states go to the next one's cube under its input, and those of the last one hit
abbrev pub Chain : Machine → ℕ → List Obligation → Type 0
Chain m point [] = Unit {0}
Chain m point (o ∷ os) =
    IsObligation m o × ((state : List Bool) → IsState m state → in_cube state o.cube ≡ true → Meets m point os state o.input) × Chain m point os

-- the state under the input steps into the cube
pub record LeadsInto (m : Machine) (cube : List StateLit) (state input : List Bool) : Type 0 where
  pub is_state : IsState m state
  pub is_input : IsInput m input
  pub into : in_cube (next_state m state input) cube ≡ true
