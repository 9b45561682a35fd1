use Rattle.std.proofs.Common.{◌-◌, ℕ, sym, ap, ◌∙◌}
use Rattle.word_core.proofs.WordLaws.{word_not-is}
use Rattle.word_core.proofs.word.Word.not.Goals as goal

pub returns-clause-bits : goal.returns-clause-bits
returns-clause-bits c =
    c.with_bits.ensures.bits ∙ ap (λ (m : ℕ). m - c.args.self.bits) c.mask.ensures ∙ sym (word_not-is c.args.self.width c.args.self.bits c.args.self.fits)
