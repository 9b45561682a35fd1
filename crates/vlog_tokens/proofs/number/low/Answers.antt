use Rattle.std.proofs.Common.{bit_and, ap, ◌∙◌}
use Rattle.std.proofs.lemmas.Nat.{and_mask}
use Rattle.vlog_tokens.proofs.number.low.Goals as goal

pub returns : goal.returns
returns c = ap (bit_and c.args.number) c.mask.ensures ∙ and_mask c.args.number c.args.width
