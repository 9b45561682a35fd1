use Rattle.std.proofs.Common.{subst, ◌≡◌, ◌≢◌, Ok, Err}
use Rattle.parsing.specs.declared.fault.Fault.TheVariants.{Memory}
use Rattle.vlog_rules.specs.Grammar.{source}
use Rattle.vlog_rules.proofs.Sound.{source_sound}
use Rattle.vlog_expr.specs.Reading.{all_read}
use Rattle.vlog_expr.proofs.Whole.{read_all, error_answers}
use Rattle.vlog_modules.proofs.text.tree_of.Goals as goal

pub returns-in-Ok : goal.returns-in-Ok
returns-in-Ok c = read_all source source_sound c.args.tokens.now c.in-Ok.found c.all_of.new.cursor (subst (λ z. all_read source z ≡ Ok (c.in-Ok.found, c.all_of.new.cursor)) c.new-cursor.ensures c.in-Ok.ensures)

pub returns-in-Err : goal.returns-in-Err
returns-in-Err c = error_answers source source_sound c.args.tokens.now c.args.end c.in-Err.fault c.error_of.result (subst (λ z. c.in-Err.fault ≢ Memory → all_read source z ≡ Err c.in-Err.fault) c.new-cursor.ensures c.in-Err.ensures) c.error_of.ensures
