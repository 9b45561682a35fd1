use Rattle.std.proofs.Common.{◌≡◌, ◌+◌, ◌≤◌, length, take}
use Rattle.ic3_frames.proofs.replay.cut.Given as goal

abbrev pub invariant-loop-lines : goal.invariant-loop-lines
invariant-loop-lines l = record {
  long : l.last + 1 ≤ length l.lines;
  front : l.lines ≡ take (length l.lines) l.fn.walk.lines;
}

abbrev pub decreases-loop-lines : goal.decreases-loop-lines
decreases-loop-lines l = length l.lines
