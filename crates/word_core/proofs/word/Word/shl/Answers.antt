use Rattle.std.proofs.Common.{◌*◌, ◌^◌, ◌∙◌, sym}
use Rattle.word_core.proofs.Masks.{low_of_low, shl_all}
use Rattle.word_core.proofs.word.Word.shl.Goals as goal

pub returns-then-by-self-clause-bits : goal.returns-then-by-self-clause-bits
returns-then-by-self-clause-bits c = c.with_bits.ensures.bits ∙ sym (shl_all c.args.self.bits c.args.by.bits c.args.self.width c.if-by-self.true)

pub returns-clause-bits : goal.returns-clause-bits
returns-clause-bits c = c.with_bits-2.ensures.bits ∙ c.low.ensures.value ∙ low_of_low (c.args.self.bits * 2 ^ c.args.by.bits) c.args.self.width c.args.self.at_most
