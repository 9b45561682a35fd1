use Rattle.std.proofs.Common.{◌≡◌, ◌+◌, ◌-◌, length, take}
use Rattle.sat_core.specs.Assigned.{place_of}
use Rattle.sat_core.specs.Propagation.{Propagates}
use Rattle.sat_core.specs.Watching.{AreListed, AreWatched, Rewatches, list_at}
use Rattle.sat_core.proofs.Visits.{Touches}
use Rattle.sat_core.proofs.propagate.visit.Given as goal

abbrev pub invariant-loop-at : goal.invariant-loop-at
invariant-loop-at l = record {
  propagates : Propagates l.clauses l.initial.trail l.trail;
  places : length l.watches.lists ≡ length l.initial.watches.lists;
  listed : AreListed l.clauses l.watches;
  rewatches : Rewatches l.clauses l.initial.trail.falses l.initial.watches l.watches;
  watched : AreWatched l.clauses l.watches.pairs (take l.done l.initial.trail.falses) l.trail.falses;
  touches : Touches l.clauses l.watches (place_of l.literal) l.at (take (l.done + 1) l.initial.trail.falses) l.trail.falses;
}

abbrev pub decreases-loop-at : goal.decreases-loop-at
decreases-loop-at l = length (list_at l.watches.lists (place_of l.literal)) - l.at
