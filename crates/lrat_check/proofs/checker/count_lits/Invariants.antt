use Rattle.std.proofs.Common.{◌≡◌, ◌<◌, ◌^◌, take}
use Rattle.std.specs.Prelude.{sum_by}
use Rattle.lrat_check.specs.Checking.{lits_in}
use Rattle.lrat_check.proofs.checker.count_lits.Given as goal

abbrev pub invariant-loop-line : goal.invariant-loop-line
invariant-loop-line l = record {
  count : l.sum ≡ sum_by lits_in (take l.line-index l.lines);
  fits : l.sum < 2 ^ 64;
}
