use Rattle.std.proofs.Common.{◌≡◌, ℕ, ◌<◌}
use Rattle.generalise.specs.Effort.{Uses}
use Rattle.ic3_frames.specs.Rules.{AreEqual, IsKept}
use Rattle.ic3_frames.proofs.search.raise_all.Given as goal

abbrev pub invariant-loop-level : goal.invariant-loop-level
invariant-loop-level l = record {
  kept : IsKept l.system l.frames;
  point : l.frames.point ≡ l.fn.frames.point;
  depth : l.frames.depth ≡ l.fn.frames.depth;
  distinct : (i : ℕ) → 0 < i → i < l.level → AreEqual l.system l.frames.lemmas i → ⊥;
  uses : Uses l.fn.units l.units;
}
