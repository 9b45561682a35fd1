use Rattle.std.proofs.Common.{◌≡◌}
use Rattle.sat_core.proofs.analysis.bump_all.Given as goal

abbrev pub invariant-loop-at : goal.invariant-loop-at
invariant-loop-at l = l.order.vars ≡ l.initial.order.vars
