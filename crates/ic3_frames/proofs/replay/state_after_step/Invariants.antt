use Rattle.std.proofs.Common.{◌≡◌, map, take}
use Rattle.aig_core.specs.Graph.{value_in}
use Rattle.ic3_frames.proofs.replay.state_after_step.Given as goal

abbrev pub invariant-loop-k : goal.invariant-loop-k
invariant-loop-k l = l.state ≡ map (value_in l.values) (take l.k l.system.next)
