use Rattle.std.proofs.Common.{◌∙◌, rules, arith}
use Rattle.std.proofs.lemmas.Grind.{common_steps}
use Rattle.parsing.specs.Reading.{Reads, read_part, turns}
use Rattle.parsing.proofs.Counting.{at_limit, counts_up}
use Rattle.vlog_rules.specs.Grammar.{rules as grammar_rules, statements}
use Rattle.vlog_expr.specs.Reading.{inner}
use Rattle.vlog_modules.specs.Reading.{stmt_at, statements_at}
use Rattle.vlog_modules.proofs.stmts.+stmt.Goals as goal

pub stmt-returns-clause-reads : goal.stmt-returns-clause-reads
unfolding inner read_part grammar_rules
stmt-returns-clause-reads t c = at_limit (λ n. Reads (stmt_at n c.args.cursor.now) c.one_statement.result c.one_statement.new.cursor) c.args.limit (omega arith) c.one_statement.ensures.reads

pub statements-loop-turn-preserved : goal.statements-loop-turn-preserved
unfolding turns statements
statements-loop-turn-preserved t c =
    let e = c.loop-turn.invariant.same ∙ (counts_up (λ n. statements_at c.args.below n c.loop-turn.found c.loop-turn.cursor) c.loop-turn._turn _).step c.loop-turn-test.true in
    record { tallest = first_of (search rules, grind (arith, common_steps)); same = first_of (search rules, grind (arith, common_steps)) }
