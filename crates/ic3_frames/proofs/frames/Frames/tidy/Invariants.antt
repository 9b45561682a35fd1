use Rattle.std.proofs.Common.{◌≡◌, ◌<◌, length}
use Rattle.bit_system.specs.Machine.{Machine}
use Rattle.ic3_frames.specs.Ascents.{LieIn}
use Rattle.ic3_frames.specs.Rules.{IsKept}
use Rattle.ic3_frames.proofs.frames.Frames.tidy.Given as goal

abbrev pub invariant-loop-at : goal.invariant-loop-at
invariant-loop-at l = record {
  kept : (m : Machine) → IsKept m l.fn.self → IsKept m l.self;
  inner : LieIn l.self.lemmas l.fn.self.lemmas;
  point : l.self.point ≡ l.fn.self.point;
  depth : l.self.depth ≡ l.fn.self.depth;
  within : 0 < l.at → l.at < length l.self.lemmas;
}

abbrev pub decreases-loop-at : goal.decreases-loop-at
decreases-loop-at l = l.at
