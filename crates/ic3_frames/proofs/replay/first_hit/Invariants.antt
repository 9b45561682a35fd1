use Rattle.std.proofs.Common.{◌≡◌, ℕ, ◌<◌, take}
use Rattle.bit_system.specs.Machine.{IsState, HitsAt, state_after}
use Rattle.ic3_frames.proofs.replay.first_hit.Given as goal

abbrev pub invariant-loop-at : goal.invariant-loop-at
invariant-loop-at l = record {
  is_state : IsState l.system l.state;
  state : l.state ≡ state_after l.system l.walk.start (take l.at l.lines);
  none : (t : ℕ) → t < l.at → HitsAt l.system l.point l.walk.start l.walk.lines t → ⊥;
}
