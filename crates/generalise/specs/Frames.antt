-- The frames that lemmas make, and cubes that no step leads into.
use Rattle.std.specs.Prelude.{◌≡◌, ◌≢◌, ℕ, ◌<◌, Bool, true, false, List, length, Option, Some, None, All as Each}
use Rattle.std.specs.List.{remove}
use Rattle.bit_system.specs.declared.ladder.Depth.{Depth}
use Rattle.bit_system.specs.declared.ladder.Depth.TheVariants.{Steps}
use Rattle.bit_system.specs.declared.ladder.StateLit.{StateLit}
use Rattle.bit_system.specs.declared.ladder.Lemma.{Lemma}
use Rattle.bit_system.specs.Machine.{Machine, IsState, IsInput, IsStart, next_state}
use Rattle.bit_system.specs.Ladders.{is_at_least, previous, lemma_true}
use Rattle.generalise.specs.Cubes.{in_cube, IsCube, misses_start}
use Rattle.generalise.specs.declared.units.Units.{Units}

-- the frame of a level: the states in which the lemmas of this level and above hold; that of no step is the start
pub record InFrame (m : Machine) (lemmas : List Lemma) (level : Depth) (state : List Bool) : Type 0 where
  pub is_state : IsState m state
  pub starts : level ≡ Steps 0 → IsStart m state
  pub holds : Each (λ l. is_at_least l.level level ≡ true → lemma_true state l ≡ true) lemmas

-- no step leads into the cube from a state outside it that lies in the frame of the level before
abbrev pub IsBlocked : Machine → List Lemma → Depth → List StateLit → Type 0
IsBlocked m lemmas level cube =
    (state input : List Bool) → InFrame m lemmas (previous level) state → IsInput m input →
    in_cube state cube ≡ false → in_cube (next_state m state input) cube ≡ false

-- a level that a lemma may have: there is one before it
abbrev pub IsLevel : Depth → Type 0
IsLevel level = level ≢ Steps 0

-- what is answered of a blocked cube: nothing, where the effort is used
abbrev pub IsTruth : Machine → List Lemma → Depth → List StateLit → Units → Option Bool → Type 0
IsTruth m lemmas level cube units None = units.used ≡ units.effort
IsTruth m lemmas level cube units (Some true) = IsBlocked m lemmas level cube
IsTruth m lemmas level cube units (Some false) = IsBlocked m lemmas level cube → ⊥

-- a cube that may become a lemma of this level
pub record IsLearnable (m : Machine) (lemmas : List Lemma) (level : Depth) (cube : List StateLit) : Type 0 where
  pub is_cube : IsCube m cube
  pub misses : misses_start m cube ≡ true
  pub blocked : IsBlocked m lemmas level cube

-- no one literal can be taken out so that the rest misses the start and is blocked
abbrev pub IsLeast : Machine → List Lemma → Depth → List StateLit → Type 0
IsLeast m lemmas level cube =
    (k : ℕ) → k < length cube →
    misses_start m (remove cube k) ≡ true → IsBlocked m lemmas level (remove cube k) → ⊥
