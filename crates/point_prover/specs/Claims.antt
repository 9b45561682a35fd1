-- What is shown of a point so far.
use Rattle.std.specs.Prelude.{◌≡◌, ℕ, zero, suc, ◌+◌, ◌≤◌}
use Rattle.bit_system.specs.declared.ladder.Depth.{Depth}
use Rattle.bit_system.specs.declared.ladder.Depth.TheVariants.{Steps}
use Rattle.bit_system.specs.Machine.{Machine}
use Rattle.bit_system.specs.Accepted.{IsAccepted}
use Rattle.point_prover.specs.declared.claim.Claim.{Claim}

-- the depth of the ladder for so many cycles after the prelude: none where there are none
abbrev pub open_depth : ℕ → ℕ → Depth
open_depth prelude zero = Steps 0
open_depth prelude (suc cycles) = Steps (prelude + suc cycles)

-- an accepted ladder of that depth, for at most so many cycles
pub record IsClaim (m : Machine) (point most : ℕ) (c : Claim) : Type 0 where
  pub depth : c.ladder.depth ≡ open_depth m.prelude c.cycles
  pub accepted : IsAccepted m point c.ladder
  pub few : c.cycles ≤ most
