-- Obligations made of a state.
use Rattle.std.specs.Prelude.{◌≡◌, ℕ, Bool, true, List}
use Rattle.bit_system.specs.Machine.{Machine}
use Rattle.generalise.specs.Cubes.{in_cube, IsCube}
use Rattle.generalise.specs.Lifting.{Forces}
use Rattle.ic3_frames.specs.declared.obligation.Obligation.{Obligation}

-- the state, the input and the level, and a part of the state that forces the goal
pub record IsLifted (m : Machine) (s x : List Bool) (goal : List ℕ) (n : ℕ) (o : Obligation) : Type 0 where
  pub state : o.state ≡ s
  pub input : o.input ≡ x
  pub level : o.level ≡ n
  pub is_cube : IsCube m o.cube
  pub inside : in_cube s o.cube ≡ true
  pub forces : Forces m x goal o.cube
