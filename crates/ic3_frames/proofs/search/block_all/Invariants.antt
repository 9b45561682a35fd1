use Rattle.std.proofs.Common.{◌≡◌, ◌-◌}
use Rattle.generalise.specs.Effort.{Uses}
use Rattle.ic3_frames.specs.Obligations.{Chain}
use Rattle.ic3_frames.specs.Rules.{IsKept}
use Rattle.ic3_frames.proofs.search.block_all.Given as goal

abbrev pub invariant-loop-stack : goal.invariant-loop-stack
invariant-loop-stack l = record {
  kept : IsKept l.system l.frames;
  chain : Chain l.system l.fn.frames.point l.stack;
  point : l.frames.point ≡ l.fn.frames.point;
  depth : l.frames.depth ≡ l.fn.frames.depth;
  uses : Uses l.fn.units l.units;
}

abbrev pub decreases-loop-stack : goal.decreases-loop-stack
decreases-loop-stack l = l.units.effort - l.units.used
