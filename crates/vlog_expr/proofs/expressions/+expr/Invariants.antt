use Rattle.std.proofs.Common.{◌≡◌, ◌≤◌, ◌+◌, ◌*◌, ◌-◌, length}
use Rattle.vlog_expr.specs.Reading.{operands_at, commas_at}
use Rattle.vlog_expr.proofs.Levels.{rank}
use Rattle.vlog_expr.proofs.expressions.+expr.Given as goal

-- Each function calls those further down at the same level, and `expr` at the next.
abbrev pub decreases-expr : goal.decreases-expr
decreases-expr l = 32 * l.limit

abbrev pub decreases-at_level : goal.decreases-at_level
decreases-at_level l = 32 * l.below + 16 + rank l.level

abbrev pub decreases-row : goal.decreases-row
decreases-row l = 32 * l.below + 15

abbrev pub decreases-choice : goal.decreases-choice
decreases-choice l = 32 * l.below + 15

abbrev pub decreases-unary : goal.decreases-unary
decreases-unary l = 32 * l.below + 15

abbrev pub decreases-primary : goal.decreases-primary
decreases-primary l = 32 * l.below + 14

abbrev pub decreases-signed : goal.decreases-signed
decreases-signed l = 32 * l.below + 13

abbrev pub decreases-name : goal.decreases-name
decreases-name l = 32 * l.below + 13

abbrev pub decreases-brace : goal.decreases-brace
decreases-brace l = 32 * l.below + 13

abbrev pub decreases-paren : goal.decreases-paren
decreases-paren l = 32 * l.below + 12

abbrev pub decreases-operands : goal.decreases-operands
decreases-operands l = 32 * l.below + 14

abbrev pub decreases-arms : goal.decreases-arms
decreases-arms l = 32 * l.below + 14

abbrev pub decreases-further_operands : goal.decreases-further_operands
decreases-further_operands l = 32 * l.below + 12

abbrev pub decreases-operand : goal.decreases-operand
decreases-operand l = 32 * l.below + 10

abbrev pub decreases-selected : goal.decreases-selected
decreases-selected l = 32 * l.below + 12

abbrev pub decreases-second : goal.decreases-second
decreases-second l = 32 * l.below + 11

abbrev pub decreases-braced : goal.decreases-braced
decreases-braced l = 32 * l.below + 12

abbrev pub decreases-repeated : goal.decreases-repeated
decreases-repeated l = 32 * l.below + 11

abbrev pub decreases-further : goal.decreases-further
decreases-further l = 32 * l.below + 11

abbrev pub decreases-exprs : goal.decreases-exprs
decreases-exprs l = 32 * l.below + 10

abbrev pub decreases-commas : goal.decreases-commas
decreases-commas l = 32 * l.below + 9

abbrev pub decreases-comma_expr : goal.decreases-comma_expr
decreases-comma_expr l = 32 * l.below + 8

abbrev pub invariant-further_operands-loop-turn : goal.invariant-further_operands-loop-turn
invariant-further_operands-loop-turn l = record {
  tallest : l.found.height ≤ l.below;
  same : operands_at l.below l.rows (length l.fn.cursor) l.fn.found l.fn.cursor ≡ operands_at l.below l.rows (l._turn-end - l._turn) l.found l.cursor;
}

abbrev pub invariant-commas-loop-turn : goal.invariant-commas-loop-turn
invariant-commas-loop-turn l = record {
  tallest : l.found.height ≤ l.below;
  same : commas_at l.below (length l.fn.cursor) l.fn.found l.fn.cursor ≡ commas_at l.below (l._turn-end - l._turn) l.found l.cursor;
}
