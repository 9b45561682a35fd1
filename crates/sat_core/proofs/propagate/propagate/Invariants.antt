use Rattle.std.proofs.Common.{◌≡◌, ◌≤◌, ◌+◌, ◌*◌, ◌-◌, length, take}
use Rattle.sat_core.specs.Propagation.{Propagates}
use Rattle.sat_core.specs.Watching.{AreListed, AreWatched, Rewatches}
use Rattle.sat_core.proofs.propagate.propagate.Given as goal

abbrev pub invariant-loop-done : goal.invariant-loop-done
invariant-loop-done l = record {
  propagates : Propagates l.clauses l.initial.trail l.trail;
  places : length l.watches.lists ≡ length l.initial.watches.lists;
  low : l.initial.done ≤ l.done;
  within : l.done ≤ length l.trail.falses;
  listed : AreListed l.clauses l.watches;
  rewatches : Rewatches l.clauses l.initial.trail.falses l.initial.watches l.watches;
  watched : AreWatched l.clauses l.watches.pairs (take l.done l.trail.falses) l.trail.falses;
}

abbrev pub decreases-loop-done : goal.decreases-loop-done
decreases-loop-done l = 2 * l.trail.vars + 2 - l.done
