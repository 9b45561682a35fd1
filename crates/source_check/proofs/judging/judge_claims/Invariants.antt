use Rattle.std.proofs.Common.{◌≡◌}
use Rattle.source_check.proofs.OneByOne.{HoldUpTo}
use Rattle.source_check.proofs.judging.judge_claims.Given as goal

abbrev pub invariant-loop-k : goal.invariant-loop-k
invariant-loop-k l = record {
  hold : HoldUpTo l.grounds.system l.grounds.legal.now.design l.grounds.setup.now l.points l.claims l.k l.accepted;
  vars : l.checker.vars ≡ l.fn.checker.vars;
}
