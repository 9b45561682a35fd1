use Rattle.std.proofs.Common.{◌≤◌, take}
use Rattle.std.specs.Prelude.{All, reverse}
use Rattle.cnf_core.specs.Lrat.{numbered}
use Rattle.sat_core.specs.Closing.{Closing, Within, left_over}
use Rattle.sat_core.proofs.analysis.shorten.Given as goal

abbrev pub invariant-loop-at : goal.invariant-loop-at
invariant-loop-at l = record {
  low : l.at ≤ l.to;
  within : All (λ m. m.variable ≤ l.trail.vars) l.kept.items;
  seen : Within l.kept.items l.seen.falses;
  closing :
      Closing (numbered 1 l.clauses) (take l.to l.trail.falses) l.seen.falses (reverse l.initial.hints.items) →
      Closing (numbered 1 l.clauses) (take l.to l.trail.falses) (left_over l.seen.falses (take l.at l.trail.falses) l.kept.items) (reverse l.hints.items);
}

abbrev pub decreases-loop-at : goal.decreases-loop-at
decreases-loop-at l = l.at
