use Rattle.std.proofs.Common.{◌≡◌, ◌-◌, ◌≤◌}
use Rattle.ic3_frames.specs.Rules.{IsKept}
use Rattle.point_prover.specs.Claims.{IsClaim}
use Rattle.point_prover.proofs.prover.search.Given as goal

abbrev pub invariant-loop-claim : goal.invariant-loop-claim
invariant-loop-claim l = record {
  kept : IsKept l.cone.system l.frames;
  point : l.frames.point ≡ 0;
  claim : IsClaim l.system l.cone.point l.frames.depth l.claim;
  effort : l.units.effort ≡ l.fn.effort;
  counted : l.frames.depth ≤ l.units.used;
}

abbrev pub decreases-loop-claim : goal.decreases-loop-claim
decreases-loop-claim l = l.units.effort - l.units.used
