use Rattle.vlog_tokens.proofs.Digits.{ones_of}
use Rattle.vlog_tokens.proofs.number.mask.Goals as goal

pub returns : goal.returns
returns c = ones_of c.args.width c.requires.within
