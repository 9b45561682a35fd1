use Rattle.std.proofs.Common.{ℕ, ◌/◌, ◌^◌, sym, ap, ◌∙◌}
use Rattle.word_core.specs.Words.{word_not}
use Rattle.word_core.proofs.SignedLaws.{sshr_high}
use Rattle.word_core.proofs.word.Word.sshr.Goals as goal

pub returns-then-is_negative-clause-bits : goal.returns-then-is_negative-clause-bits
returns-then-is_negative-clause-bits c =
    c.not-then-is_negative.ensures.bits
    ∙ (λ j. word_not ((c.shr.ensures.width ∙ c.not.ensures.width) j) ((c.shr.ensures.bits ∙ ap (λ (n : ℕ). n / 2 ^ c.args.by.bits) c.not.ensures.bits) j))
    ∙ sym (sshr_high c.args.self.width c.args.self.bits c.args.by.bits (c.is_negative.ensures.0 c.if-is_negative.true) c.args.self.fits)
