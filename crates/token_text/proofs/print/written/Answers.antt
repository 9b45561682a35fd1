use Rattle.std.proofs.Common.{◌∙◌}
use Rattle.token_text.specs.Printing.{texts}
use Rattle.token_text.proofs.Writing.{all_written}
use Rattle.token_text.proofs.print.written.Goals as goal

pub returns : goal.returns
returns c = c.into_bytes.ensures ∙ all_written c.loop-rest.out c.loop-rest.rest.now (texts c.args.tokens.now) c.in_default.len_below c.loop-rest.invariant
