use Rattle.std.proofs.Common.{◌<◌, ◌≤◌, length}
use Rattle.sat_core.specs.Trailed.{seen_from}
use Rattle.sat_core.proofs.analysis.is_last_seen.Given as goal

abbrev pub invariant-loop-place : goal.invariant-loop-place
invariant-loop-place l = record {
  low : l.floor ≤ l.place;
  high : l.place < l.at;
  one : length (seen_from l.seen.falses l.place l.at l.trail) ≤ 1;
}

abbrev pub decreases-loop-place : goal.decreases-loop-place
decreases-loop-place l = l.place
