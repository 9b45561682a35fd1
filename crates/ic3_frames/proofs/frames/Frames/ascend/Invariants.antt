use Rattle.std.proofs.Common.{◌≡◌, ◌-◌, ◌≤◌}
use Rattle.bit_system.specs.declared.ladder.Depth.TheVariants.{Steps}
use Rattle.generalise.specs.Effort.{Uses}
use Rattle.generalise.specs.Frames.{IsLearnable}
use Rattle.ic3_frames.proofs.frames.Frames.ascend.Given as goal

abbrev pub invariant-loop-high : goal.invariant-loop-high
invariant-loop-high l = record {
  from : l.level ≤ l.high;
  learnable : IsLearnable l.system l.fn.self.lemmas (Steps l.high) l.cube;
  same : l.self ≡ l.fn.self;
  uses : Uses l.fn.units l.units;
}

abbrev pub decreases-loop-high : goal.decreases-loop-high
decreases-loop-high l = l.top - l.high
