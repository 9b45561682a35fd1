-- What came of raising lemmas.
use Rattle.std.specs.Prelude.{◌≡◌, ◌≢◌, ◌↔◌, ℕ, ◌≤◌, Bool, List, slice_index_or}
use Rattle.bit_system.specs.declared.ladder.Depth.TheVariants.{Steps}
use Rattle.bit_system.specs.declared.ladder.Lemma.{Lemma}
use Rattle.bit_system.specs.Machine.{Machine, IsInput, next_state}
use Rattle.generalise.specs.Frames.{InFrame}
use Rattle.generalise.specs.declared.units.Units.{Units}
use Rattle.ic3_frames.specs.Framed.{Framed}
use Rattle.ic3_frames.specs.Rules.{AreEqual}
use Rattle.ic3_frames.specs.declared.frames.Level.{Level}
use Rattle.ic3_frames.specs.declared.frames.Level.TheVariants.{Left, Empty, Spent}

-- a step from the frame of the level leaves it
pub record StepsOut (m : Machine) (lemmas : List Lemma) (level : ℕ) : Type 0 where
  pub state : List Bool
  pub input : List Bool
  pub in_frame : InFrame m lemmas (Steps level) state
  pub is_input : IsInput m input
  pub out : InFrame m lemmas (Steps level) (next_state m state input) → ⊥

-- the frames up to the level are the same
abbrev pub AreSameUpTo : Machine → ℕ → List Lemma → List Lemma → Type 0
AreSameUpTo m level old new = (i : ℕ) (state : List Bool) → i ≤ level → InFrame m new (Steps i) state ↔ InFrame m old (Steps i) state

-- whether a lemma is left at the level
abbrev pub IsLeft : Machine → Framed → ℕ → Units → Level → Type 0
IsLeft m f level units Left = StepsOut m f.lemmas level
IsLeft m f level units Empty = AreEqual m f.lemmas level
IsLeft m f level units Spent = units.used ≡ units.effort

-- the lemma at this place isn't of the level, and the others are as before
pub record IsPassed (old new : List Lemma) (at level : ℕ) : Type 0 where
  pub other : (d : Lemma) → (slice_index_or new at d).level ≢ Steps level
  pub rest : (k : ℕ) (d : Lemma) → k ≢ at → slice_index_or new k d ≡ slice_index_or old k d

-- whether the lemma at the place is left at the level
abbrev pub IsPlace : Machine → List Lemma → List Lemma → ℕ → ℕ → Units → Level → Type 0
IsPlace m old new at level units Left = (new ≡ old) × StepsOut m old level
IsPlace m old new at level units Empty = IsPassed old new at level
IsPlace m old new at level units Spent = units.used ≡ units.effort
