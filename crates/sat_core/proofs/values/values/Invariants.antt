use Rattle.std.proofs.Common.{◌≡◌, length}
use Rattle.sat_core.specs.Answers.{valuation}
use Rattle.sat_core.specs.Trailed.{Agree}
use Rattle.sat_core.proofs.values.values.Given as goal

abbrev pub invariant-loop-at : goal.invariant-loop-at
invariant-loop-at l = record {
  many : length l.values ≡ l.at;
  valued : Agree l.at l.trail.falses (valuation l.values);
}
