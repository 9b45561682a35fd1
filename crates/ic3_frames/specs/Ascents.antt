-- Blocking a cube: the highest level at which no step leads into it, and frames that it is kept out of.
use Rattle.std.specs.Prelude.{◌≡◌, ℕ, ◌+◌, ◌<◌, ◌≤◌, Bool, false, List}
use Rattle.bit_system.specs.declared.ladder.Depth.{Depth}
use Rattle.bit_system.specs.declared.ladder.Depth.TheVariants.{Steps}
use Rattle.bit_system.specs.declared.ladder.StateLit.{StateLit}
use Rattle.bit_system.specs.declared.ladder.Lemma.{Lemma}
use Rattle.bit_system.specs.Machine.{Machine}
use Rattle.generalise.specs.Cubes.{in_cube}
use Rattle.generalise.specs.Frames.{InFrame, IsBlocked, IsLearnable}
use Rattle.generalise.specs.declared.units.Units.{Units}

-- a level from `low` on at which the cube is blocked; where effort is left and it is below `top`, the cube isn't blocked at the next one
pub record IsHighest (m : Machine) (lemmas : List Lemma) (cube : List StateLit) (low top : ℕ) (units : Units) (level : ℕ) : Type 0 where
  pub from : low ≤ level
  pub learnable : IsLearnable m lemmas (Steps level) cube
  pub highest : level < top → units.used < units.effort → IsBlocked m lemmas (Steps (level + 1)) cube → ⊥

-- no state of the cube lies in the frame of the level
abbrev pub KeepsOut : Machine → List Lemma → ℕ → List StateLit → Type 0
KeepsOut m lemmas level cube = (state : List Bool) → InFrame m lemmas (Steps level) state → in_cube state cube ≡ false

-- the frames of the first lemmas lie in those of the second ones
abbrev pub LieIn : List Lemma → List Lemma → Type 0
LieIn inner outer = (m : Machine) (level : Depth) (state : List Bool) → InFrame m inner level state → InFrame m outer level state
