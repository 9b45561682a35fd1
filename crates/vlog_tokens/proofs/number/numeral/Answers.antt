use Rattle.std.proofs.Common.{sym, ◌∙◌, ◌^◌}
use Rattle.vlog_tokens.specs.Numbers.{numeral}
use Rattle.vlog_tokens.proofs.Digits.{none_turn, all_read}
use Rattle.vlog_tokens.proofs.number.numeral.Goals as goal

pub returns-in-None : goal.returns-in-None
returns-in-None c = none_turn c.args.radix c.loop-rest.value (2 ^ 128) c.loop-rest.rest.now (numeral c.args.radix c.args.digits.now) c.requires c.in-len1-up.len_at_least c.loop-rest.invariant.0 (sym c.in-None.is ∙ c.with_digit.ensures)

pub returns : goal.returns
returns c = all_read c.args.radix c.loop-rest.value (2 ^ 128) c.loop-rest.rest.now (numeral c.args.radix c.args.digits.now) c.loop-rest.invariant.1 c.in_default.len_below c.loop-rest.invariant.0
