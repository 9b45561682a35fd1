use Rattle.std.proofs.Common.{◌≡◌}
use Rattle.sat_core.proofs.propagate.note_all.Given as goal

abbrev pub invariant-loop-literal : goal.invariant-loop-literal
invariant-loop-literal l = l.order.vars ≡ l.initial.order.vars
