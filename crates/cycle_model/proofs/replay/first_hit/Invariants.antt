use Rattle.std.proofs.Common.{◌≡◌}
use Rattle.cycle_model.proofs.Hits.{Replaying}
use Rattle.cycle_model.proofs.replay.first_hit.Given as goal

abbrev pub invariant-loop-k : goal.invariant-loop-k
invariant-loop-k l =
    (l.sim.legal ≡ l.initial.sim.legal) × Replaying l.initial.sim.legal.design l.initial.sim.held l.lines l.skip l.site l.k l.sim.held
