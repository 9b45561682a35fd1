use Rattle.std.proofs.Common.{◌≡◌, ◌≤◌, drop, length}
use Rattle.std.specs.Prelude.{option_to_list}
use Rattle.cnf_core.specs.Lrat.{open_lits}
use Rattle.sat_core.proofs.propagate.scan.Given as goal

abbrev pub invariant-loop-at : goal.invariant-loop-at
invariant-loop-at l = record {
  within : l.at ≤ length l.clause;
  open_ones : open_lits l.trail.falses (drop l.at l.clause) ≡ option_to_list l.only;
}

abbrev pub decreases-loop-at : goal.decreases-loop-at
decreases-loop-at l = l.at
