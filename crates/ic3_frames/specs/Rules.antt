-- The rules of the frames (Bradley 2011).
use Rattle.std.specs.Prelude.{◌≡◌, ◌↔◌, ℕ, ◌+◌, ◌<◌, Bool, true, List, length, All as Each}
use Rattle.bit_system.specs.declared.ladder.Depth.TheVariants.{Steps}
use Rattle.bit_system.specs.declared.ladder.Lemma.{Lemma}
use Rattle.bit_system.specs.Machine.{Machine, IsMachine, IsInput, IsStart, next_state}
use Rattle.bit_system.specs.Ladders.{HasStates, is_at_least}
use Rattle.bit_system.specs.Accepted.{Rises, true_at_start}
use Rattle.generalise.specs.Frames.{InFrame}
use Rattle.ic3_frames.specs.Queries.{Hits}
use Rattle.ic3_frames.specs.Framed.{Framed}

-- a lemma of a level from 1 on, on bits of the system in strictly rising order, of which the start makes a literal true
pub record IsFrameLemma (m : Machine) (l : Lemma) : Type 0 where
  pub level : (n : ℕ) × (l.level ≡ Steps (n + 1))
  pub states : HasStates m l
  pub rises : Rises l.lits
  pub starts : true_at_start m l ≡ true

-- a step from a frame lands in the next one
abbrev pub Lands : Machine → List Lemma → Type 0
Lands m lemmas = (i : ℕ) (state input : List Bool) → InFrame m lemmas (Steps i) state → IsInput m input → InFrame m lemmas (Steps (i + 1)) (next_state m state input)

-- no state of the frame hits
abbrev pub MissesHit : Machine → ℕ → List Lemma → ℕ → Type 0
MissesHit m point lemmas i = (state input : List Bool) → Hits m point lemmas (Steps (i + 1)) state input → ⊥

-- what the search keeps of the frames
pub record IsKept (m : Machine) (f : Framed) : Type 0 where
  pub valid : IsMachine m
  pub point : f.point < length m.hits
  pub lemmas : Each (IsFrameLemma m) f.lemmas
  pub lands : Lands m f.lemmas
  pub misses : (i : ℕ) → i < f.depth → MissesHit m f.point f.lemmas i

-- frame 0 is the start, each frame implies the next one, a step from a frame lands in the next one, no frame below the depth
-- hits, and the lemmas of a frame's successor are among its own
pub record Rules (m : Machine) (f : Framed) : Type 0 where
  pub begins : (state : List Bool) → InFrame m f.lemmas (Steps 0) state ↔ IsStart m state
  pub implies : (i : ℕ) (state : List Bool) → InFrame m f.lemmas (Steps i) state → InFrame m f.lemmas (Steps (i + 1)) state
  pub lands : Lands m f.lemmas
  pub misses : (i : ℕ) → i < f.depth → MissesHit m f.point f.lemmas i
  pub among : (i : ℕ) → Each (λ l. is_at_least l.level (Steps (i + 1)) ≡ true → is_at_least l.level (Steps i) ≡ true) f.lemmas
  pub lemmas : Each (IsFrameLemma m) f.lemmas

-- the frames of this level and the next one are equal
abbrev pub AreEqual : Machine → List Lemma → ℕ → Type 0
AreEqual m lemmas i = (state : List Bool) → InFrame m lemmas (Steps i) state ↔ InFrame m lemmas (Steps (i + 1)) state

-- frames that are kept keep the rules
abbrev pub KeptFramesKeepTheRules : Type 0
KeptFramesKeepTheRules = (m : Machine) (f : Framed) → IsKept m f → Rules m f
