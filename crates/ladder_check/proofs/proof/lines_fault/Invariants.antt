use Rattle.std.proofs.Common.{◌≡◌, ◌+◌, ◌≤◌, length, drop}
use Rattle.std.specs.Prelude.{sum_by}
use Rattle.cnf_core.specs.Lrat.{Closes, Refutes, start}
use Rattle.lrat_check.specs.Checking.{lits_in}
use Rattle.ladder_check.specs.Faults.{FailsBy}
use Rattle.ladder_check.specs.declared.fault.QueryFault.{QueryFault}
use Rattle.ladder_check.proofs.proof.lines_fault.Given as goal

abbrev pub invariant-loop-line : goal.invariant-loop-line
invariant-loop-line l = record {
  vars : l.checker.vars ≡ l.fn.checker.vars;
  run : Closes l.fn.checker.vars l.checker.state (drop l.line-index l.lines) → Refutes l.fn.checker.vars l.clauses l.lines;
  fails : (f : QueryFault) → FailsBy l.fn.checker.vars l.checker.state (drop l.line-index l.lines) f → FailsBy l.fn.checker.vars (start l.clauses) l.lines f;
  lines : length l.lines ≤ l.checker.lines_left + l.line-index;
  lits : sum_by lits_in (drop l.line-index l.lines) ≤ l.checker.lits_left;
}
