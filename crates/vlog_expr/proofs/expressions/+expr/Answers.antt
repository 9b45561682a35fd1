use Rattle.std.proofs.Common.{◌≡◌, ◌∙◌, Ok, subst, rules, arith}
use Rattle.std.proofs.lemmas.Grind.{common_steps}
use Rattle.parsing.specs.Reading.{Reads, read_part, turns}
use Rattle.parsing.proofs.Counting.{at_limit, counts_up}
use Rattle.vlog_rules.specs.Grammar.{rules as grammar_rules, operand, comma_expr, repeated, exprs}
use Rattle.vlog_expr.specs.Reading.{inner, expr_at, form_at, operands_at, commas_at}
use Rattle.vlog_expr.proofs.Levels.{max_zeros}
use Rattle.vlog_expr.proofs.expressions.+expr.Goals as goal

pub expr-returns-clause-reads : goal.expr-returns-clause-reads
unfolding inner read_part grammar_rules
expr-returns-clause-reads t c = at_limit (λ n. Reads (expr_at n c.args.level c.args.cursor.now) c.at_level.result c.at_level.new.cursor) c.args.limit (omega arith) c.at_level.ensures.reads

pub further_operands-loop-turn-preserved : goal.further_operands-loop-turn-preserved
unfolding turns operand
further_operands-loop-turn-preserved t c =
    let e = c.loop-turn.invariant.same ∙ (counts_up (λ n. operands_at c.args.below c.args.rows n c.loop-turn.found c.loop-turn.cursor) c.loop-turn._turn _).step c.loop-turn-test.true in
    record { tallest = first_of (search rules, grind (arith, common_steps)); same = first_of (search rules, grind (arith, common_steps)) }

pub further_operands-returns-in_err-next-clause-reads : goal.further_operands-returns-in_err-next-clause-reads
unfolding turns operand
further_operands-returns-in_err-next-clause-reads t c =
    let e = c.loop-turn.invariant.same ∙ (counts_up (λ n. operands_at c.args.below c.args.rows n c.loop-turn.found c.loop-turn.cursor) c.loop-turn._turn _).step c.loop-turn-test.true in
    first_of (search rules, grind (arith, common_steps))

pub commas-loop-turn-preserved : goal.commas-loop-turn-preserved
unfolding turns comma_expr
commas-loop-turn-preserved t c =
    let e = c.loop-turn.invariant.same ∙ (counts_up (λ n. commas_at c.args.below n c.loop-turn.found c.loop-turn.cursor) c.loop-turn._turn _).step c.loop-turn-test.true in
    record { tallest = first_of (search rules, grind (arith, common_steps)); same = first_of (search rules, grind (arith, common_steps)) }

pub repeated-returns-clause-reads : goal.repeated-returns-clause-reads
unfolding repeated exprs
repeated-returns-clause-reads t c =
    subst (λ h. form_at c.args.below repeated c.args.cursor.now ≡ Ok (record { tree = c.in_ok-found.found.tree; height = h }, c.expect-2.new.self)) (max_zeros c.in_ok-found.found.height)
    (first_of (search rules, grind (arith, common_steps)))
