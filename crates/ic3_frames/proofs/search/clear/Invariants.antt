use Rattle.std.proofs.Common.{◌≡◌, ◌-◌}
use Rattle.generalise.specs.Effort.{Uses}
use Rattle.ic3_frames.specs.Rules.{IsKept}
use Rattle.ic3_frames.proofs.search.clear.Given as goal

abbrev pub invariant-loop-ending : goal.invariant-loop-ending
invariant-loop-ending l = record {
  kept : IsKept l.system l.frames;
  point : l.frames.point ≡ l.fn.frames.point;
  depth : l.frames.depth ≡ l.fn.frames.depth;
  uses : Uses l.fn.units l.units;
}

abbrev pub decreases-loop-ending : goal.decreases-loop-ending
decreases-loop-ending l = l.units.effort - l.units.used
