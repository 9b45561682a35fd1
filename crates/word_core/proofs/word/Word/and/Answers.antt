use Rattle.std.proofs.Common.{◌≡◌, ◌<◌, ◌^◌, ℕ, sym, subst, ◌∙◌}
use Rattle.word_core.proofs.WordLaws.{word_and-is}
use Rattle.word_core.proofs.word.Word.and.Goals as goal

at_width : (b v w : ℕ) → v ≡ w → b < 2 ^ v → b < 2 ^ w
at_width b v w e h = subst (λ (k : ℕ). b < 2 ^ k) e h

pub returns-clause-bits : goal.returns-clause-bits
returns-clause-bits c = c.with_bits.ensures.bits ∙ sym (word_and-is c.args.self.width c.args.self.bits c.args.other.bits c.args.self.fits (at_width c.args.other.bits _ _ c.requires c.args.other.fits))
