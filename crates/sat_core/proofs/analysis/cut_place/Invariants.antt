use Rattle.std.proofs.Common.{◌≡◌, ℕ, ◌<◌, ◌≤◌, None, length}
use Rattle.sat_core.specs.Trailed.{reason_at, seen_from}
use Rattle.sat_core.proofs.analysis.cut_place.Given as goal

abbrev pub invariant-loop-at : goal.invariant-loop-at
invariant-loop-at l = record {
  high : l.at ≤ l.cut;
  cut : l.cut ≤ l.decision;
  low : l.floor ≤ l.at;
  counted : l.count ≡ length (seen_from l.seen.falses l.at l.to l.trail);
  small : l.count ≤ 1;
  decided : reason_at l.trail l.cut ≡ None;
  none : (d : ℕ) → l.at ≤ d → d < l.cut → reason_at l.trail d ≡ None → ⊥;
}

abbrev pub decreases-loop-at : goal.decreases-loop-at
decreases-loop-at l = l.at
