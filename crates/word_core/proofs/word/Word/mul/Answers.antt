use Rattle.std.proofs.Common.{◌*◌, ◌∙◌}
use Rattle.word_core.proofs.Masks.{low_of_low}
use Rattle.word_core.proofs.word.Word.mul.Goals as goal

pub returns-clause-bits : goal.returns-clause-bits
returns-clause-bits c = c.with_bits.ensures.bits ∙ c.low.ensures.value ∙ low_of_low (c.args.self.bits * c.args.other.bits) c.args.self.width c.args.self.at_most
