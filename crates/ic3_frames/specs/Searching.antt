-- How a search goes on, and how it ends.
use Rattle.std.specs.Prelude.{◌≡◌, ℕ, ◌<◌}
use Rattle.bit_system.specs.Machine.{Machine, IsStart, HitsAt}
use Rattle.generalise.specs.declared.units.Units.{Units}
use Rattle.ic3_frames.specs.Walks.{LeadsToHit}
use Rattle.ic3_frames.specs.declared.walk.Walk.{Walk}
use Rattle.ic3_frames.specs.declared.search.Ending.{Ending}
use Rattle.ic3_frames.specs.declared.search.Ending.TheVariants.{Trace, Spent}
use Rattle.ic3_frames.specs.declared.search.Progress.{Progress}
use Rattle.ic3_frames.specs.declared.search.Progress.TheVariants.{More, Empty, Ended}

-- a walk from a permitted start that leads to a hit
pub record IsTrace (m : Machine) (point : ℕ) (walk : Walk) : Type 0 where
  pub starts : IsStart m walk.start
  pub leads : LeadsToHit m point walk.start walk.lines

-- the walk hits in this step, and in none before
pub record IsFirstHit (m : Machine) (point : ℕ) (walk : Walk) (at : ℕ) : Type 0 where
  pub hit : HitsAt m point walk.start walk.lines at
  pub first : (t : ℕ) → t < at → HitsAt m point walk.start walk.lines t → ⊥

abbrev pub IsEnding : Machine → ℕ → Units → Ending → Type 0
IsEnding m point units (Trace walk) = IsTrace m point walk
IsEnding m point units Spent = units.used ≡ units.effort

-- what holds where there is more, where there is nothing left, and at an end
abbrev pub IsProgress : Machine → ℕ → Units → Type 0 → Type 0 → Progress → Type 0
IsProgress m point units more empty More = more
IsProgress m point units more empty Empty = empty
IsProgress m point units more empty (Ended ending) = IsEnding m point units ending
