use Rattle.std.proofs.Common.{◌≡◌, ◌≤◌, ◌+◌, ◌*◌, ◌-◌}
use Rattle.vlog_rules.specs.Grammar.{statements}
use Rattle.vlog_expr.specs.Reading.{form_at}
use Rattle.vlog_modules.specs.Reading.{statements_at}
use Rattle.vlog_modules.proofs.stmts.+stmt.Given as goal

-- Each function calls those further down at the same level, and `stmt` at the next.
abbrev pub decreases-stmt : goal.decreases-stmt
decreases-stmt l = 16 * l.limit

abbrev pub decreases-one_statement : goal.decreases-one_statement
decreases-one_statement l = 16 * l.below + 10

abbrev pub decreases-branch : goal.decreases-branch
decreases-branch l = 16 * l.below + 8

abbrev pub decreases-branches : goal.decreases-branches
decreases-branches l = 16 * l.below + 6

abbrev pub decreases-other_branch : goal.decreases-other_branch
decreases-other_branch l = 16 * l.below + 4

abbrev pub decreases-block : goal.decreases-block
decreases-block l = 16 * l.below + 8

abbrev pub decreases-statements : goal.decreases-statements
decreases-statements l = 16 * l.below + 6

abbrev pub decreases-nested : goal.decreases-nested
decreases-nested l = 16 * l.below + 4

abbrev pub invariant-statements-loop-turn : goal.invariant-statements-loop-turn
invariant-statements-loop-turn l = record {
  tallest : l.found.height ≤ l.below;
  same : form_at l.below statements l.fn.cursor ≡ statements_at l.below (l._turn-end - l._turn) l.found l.cursor;
}
