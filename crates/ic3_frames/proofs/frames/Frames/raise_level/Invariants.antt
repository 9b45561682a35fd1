use Rattle.std.proofs.Common.{◌≡◌, true, length}
use Rattle.generalise.specs.Effort.{Uses}
use Rattle.ic3_frames.specs.Raised.{AreSameUpTo, StepsOut}
use Rattle.ic3_frames.specs.Rules.{IsKept}
use Rattle.ic3_frames.proofs.Swept.{Swept}
use Rattle.ic3_frames.proofs.frames.Frames.raise_level.Given as goal

abbrev pub invariant-loop-at : goal.invariant-loop-at
invariant-loop-at l = record {
  kept : IsKept l.system l.self;
  point : l.self.point ≡ l.fn.self.point;
  depth : l.self.depth ≡ l.fn.self.depth;
  long : length l.self.lemmas ≡ l.at-end;
  uses : Uses l.fn.units l.units;
  same : AreSameUpTo l.system l.level l.fn.self.lemmas l.self.lemmas;
  out : l.left ≡ true → StepsOut l.system l.self.lemmas l.level;
  swept : Swept l.self.lemmas l.level l.at l.left;
}
