use Rattle.std.proofs.Common.{◌≡◌, length}
use Rattle.generalise.specs.Effort.{Uses}
use Rattle.generalise.specs.Frames.{IsLearnable}
use Rattle.generalise.specs.Parts.{IsPart}
use Rattle.generalise.proofs.drop.drop_literals.Given as goal

abbrev pub invariant-loop-part : goal.invariant-loop-part
invariant-loop-part g l = record {
  machine : g.A.Ask.machine l.ask ≡ g.A.Ask.machine l.fn.ask;
  frames : g.A.Ask.frames l.ask ≡ g.A.Ask.frames l.fn.ask;
  uses : Uses l.fn.units l.units;
  learnable : IsLearnable (g.A.Ask.machine l.fn.ask) (g.A.Ask.frames l.fn.ask) l.level l.part;
  part : IsPart l.part l.fn.cube;
}

abbrev pub decreases-loop-part : goal.decreases-loop-part
decreases-loop-part g l = length l.part
