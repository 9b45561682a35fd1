-- What a turn of the search says.
use Rattle.std.specs.Prelude.{◌≡◌, ℕ, ◌+◌, ◌<◌}
use Rattle.bit_system.specs.Machine.{Machine}
use Rattle.generalise.specs.declared.units.Units.{Units}
use Rattle.ic3_frames.specs.Framed.{Framed}
use Rattle.ic3_frames.specs.Rules.{AreEqual}
use Rattle.ic3_frames.specs.Walks.{EndsAtFirstHit}
use Rattle.ic3_frames.specs.declared.turn.Turn.{Turn}
use Rattle.ic3_frames.specs.declared.turn.Turn.TheVariants.{More, Closed, Trace, Spent}

-- two neighbouring frames below the depth are equal
pub record IsClosed (m : Machine) (f : Framed) (level : ℕ) : Type 0 where
  pub low : 0 < level
  pub below : level < f.depth
  pub equal : AreEqual m f.lemmas level

-- no two neighbouring frames from 1 up to the depth are equal
abbrev pub AreDistinct : Machine → Framed → Type 0
AreDistinct m f = (level : ℕ) → 0 < level → level < f.depth → AreEqual m f.lemmas level → ⊥

-- the depth rose by one for a unit or more, and frames are distinct; or frames are equal; or a walk hits; or the effort is used
abbrev pub IsTurn : Machine → Framed → Framed → Units → Units → Turn → Type 0
IsTurn m old new before after More = (new.depth ≡ old.depth + 1) × (before.used < after.used) × AreDistinct m new
IsTurn m old new before after (Closed level) = IsClosed m new level
IsTurn m old new before after (Trace walk) = EndsAtFirstHit m old.point walk
IsTurn m old new before after Spent = after.used ≡ after.effort

-- what came of raising the lemmas
abbrev pub IsRaised : Machine → Framed → Units → Turn → Type 0
IsRaised m f units More = AreDistinct m f
IsRaised m f units (Closed level) = IsClosed m f level
IsRaised m f units (Trace walk) = ⊥
IsRaised m f units Spent = units.used ≡ units.effort
