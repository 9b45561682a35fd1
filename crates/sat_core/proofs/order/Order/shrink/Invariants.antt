use Rattle.std.proofs.Common.{◌≡◌, vec_len}
use Rattle.sat_core.proofs.order.Order.shrink.Given as goal

abbrev pub invariant-loop-at : goal.invariant-loop-at
invariant-loop-at l = record {
  long : vec_len l.self.activities ≡ vec_len l.initial.self.activities;
  vars : l.self.vars ≡ l.initial.self.vars;
}
