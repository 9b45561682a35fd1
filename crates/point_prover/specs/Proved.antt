-- What is found out of a point.
use Rattle.std.specs.Prelude.{◌≡◌, ℕ, ◌≤◌}
use Rattle.bit_system.specs.declared.ladder.Depth.TheVariants.{All}
use Rattle.bit_system.specs.declared.ladder.Ladder.{Ladder}
use Rattle.bit_system.specs.Machine.{Machine}
use Rattle.bit_system.specs.Accepted.{IsAccepted}
use Rattle.ic3_frames.specs.Walks.{EndsAtFirstHit}
use Rattle.point_prover.specs.Claims.{open_depth}
use Rattle.point_prover.specs.declared.prover.Proved.{Proved}
use Rattle.point_prover.specs.declared.prover.Proved.TheVariants.{Excluded, Reached, Open}

-- an accepted ladder for any number of steps
pub record IsExcluded (m : Machine) (point : ℕ) (ladder : Ladder) : Type 0 where
  pub depth : ladder.depth ≡ All
  pub accepted : IsAccepted m point ladder

-- an accepted ladder for so many cycles after the prelude, and the whole effort is used
pub record IsOpen (m : Machine) (point effort cycles : ℕ) (ladder : Ladder) (used : ℕ) : Type 0 where
  pub depth : ladder.depth ≡ open_depth m.prelude cycles
  pub accepted : IsAccepted m point ladder
  pub few : cycles ≤ effort
  pub all_used : used ≡ effort

abbrev pub IsProved : Machine → ℕ → ℕ → Proved → Type 0
IsProved m point effort (Excluded ladder) = IsExcluded m point ladder
IsProved m point effort (Reached walk) = EndsAtFirstHit m point walk
IsProved m point effort (Open cycles ladder used) = IsOpen m point effort cycles ladder used
