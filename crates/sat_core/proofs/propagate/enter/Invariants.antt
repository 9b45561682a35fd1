use Rattle.std.proofs.Common.{◌≡◌, length}
use Rattle.sat_core.specs.Propagation.{Propagates}
use Rattle.sat_core.specs.Watching.{IsEntered}
use Rattle.sat_core.proofs.propagate.enter.Given as goal

abbrev pub invariant-loop-at : goal.invariant-loop-at
invariant-loop-at l = record {
  vars : l.order.vars ≡ l.initial.order.vars;
  propagates : Propagates l.clauses l.initial.trail l.trail;
  places : length l.watches.lists ≡ length l.initial.watches.lists;
  next : l.at ≡ length l.watches.pairs;
  entered : IsEntered l.clauses l.initial.trail.falses l.trail.falses l.initial.watches l.watches;
}
