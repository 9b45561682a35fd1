use Rattle.std.proofs.Common.{◌≡◌, ℕ, ◌<◌, length, get_or, false}
use Rattle.bit_system.specs.declared.system.StateInfo.{StateInfo}
use Rattle.ic3_frames.specs.Full.{or_else}
use Rattle.ic3_frames.proofs.search.start_like.Given as goal

abbrev pub invariant-loop-k : goal.invariant-loop-k
invariant-loop-k l = record {
  long : length l.start ≡ l.k;
  has : (j : ℕ) (d : StateInfo) → j < l.k → get_or l.start j false ≡ or_else (get_or l.states j d).start (get_or l.state j false);
}
