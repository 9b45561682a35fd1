use Rattle.std.proofs.Common.{◌∙◌, sym}
use Rattle.word_core.proofs.Masks.{shr_all}
use Rattle.word_core.proofs.word.Word.shr.Goals as goal

pub returns-then-by-self-clause-bits : goal.returns-then-by-self-clause-bits
returns-then-by-self-clause-bits c = c.with_bits.ensures.bits ∙ sym (shr_all c.args.self.bits c.args.by.bits c.args.self.width c.args.self.fits c.if-by-self.true)
