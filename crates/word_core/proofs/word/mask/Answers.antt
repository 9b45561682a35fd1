use Rattle.word_core.proofs.Masks.{ones_of}
use Rattle.word_core.proofs.word.mask.Goals as goal

pub returns : goal.returns
returns c = ones_of c.args.width c.requires.at_most
