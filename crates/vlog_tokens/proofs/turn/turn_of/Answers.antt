use Rattle.std.proofs.Common.{sym, ◌∙◌, ap, subst}
use Rattle.vlog_tokens.specs.Reads.{turn_at, turn, TurnFits}
use Rattle.vlog_tokens.proofs.Turns.{turn_fits}
use Rattle.vlog_tokens.proofs.turn.turn_of.Goals as goal

pub returns-clause-fits : goal.returns-clause-fits
unfolding turn
returns-clause-fits c = subst (λ z. TurnFits c.args.text.now z) (sym (c.turn_at.ensures ∙ ap (λ o. turn_at o c.args.text.now) c.opening_of.ensures)) (turn_fits c.args.text.now)
