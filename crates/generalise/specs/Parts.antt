-- Parts of a cube, and what came of taking literals out.
use Rattle.std.specs.Prelude.{◌≡◌, ℕ, ◌<◌, Bool, true, false, List, length}
use Rattle.std.specs.List.{remove}
use Rattle.bit_system.specs.declared.ladder.Depth.{Depth}
use Rattle.bit_system.specs.declared.ladder.StateLit.{StateLit}
use Rattle.bit_system.specs.declared.ladder.Lemma.{Lemma}
use Rattle.bit_system.specs.Machine.{Machine}
use Rattle.generalise.specs.Cubes.{misses_start}
use Rattle.generalise.specs.Frames.{IsBlocked, IsLearnable, IsLeast}
use Rattle.generalise.specs.declared.drop.Attempt.{Attempt}
use Rattle.generalise.specs.declared.drop.Attempt.TheVariants.{Less, Needed, Spent}
use Rattle.generalise.specs.declared.units.Units.{Units}

-- `part` is the cube without some of its literals
pub data IsPart : List StateLit → List StateLit → Type 0 where
  whole : (cube : List StateLit) → IsPart cube cube
  less : (part cube : List StateLit) (k : ℕ) → k < length cube → IsPart part (remove cube k) → IsPart part cube

-- what came of taking out the literal at a place
abbrev pub IsAttempt : Machine → List Lemma → Depth → List StateLit → ℕ → Units → Attempt → Type 0
IsAttempt m lemmas level cube at units (Less rest) = (rest ≡ remove cube at) × IsLearnable m lemmas level rest
IsAttempt m lemmas level cube at units Needed =
    misses_start m (remove cube at) ≡ true → IsBlocked m lemmas level (remove cube at) → ⊥
IsAttempt m lemmas level cube at units Spent = units.used ≡ units.effort

-- what came of a pass over a cube's literals
pub record IsPass (m : Machine) (lemmas : List Lemma) (level : Depth) (old new : List StateLit) (units : Units) (dropped : Bool) : Type 0 where
  pub learnable : IsLearnable m lemmas level new
  pub part : IsPart new old
  pub shorter : dropped ≡ true → length new < length old
  pub least : dropped ≡ false → units.used < units.effort → IsLeast m lemmas level new
