use Rattle.std.proofs.Common.{ℕ, nat_eq, not, sym, ap, ◌∙◌}
use Rattle.word_core.specs.Words.{bits_of}
use Rattle.word_core.proofs.WordLaws.{any-is, number_of-bits_of}
use Rattle.word_core.proofs.word.Word.any.Goals as goal

pub returns : goal.returns
returns c =
    let w = c.args.self.width in
    let a = c.args.self.bits in
    sym (any-is (bits_of w a) ∙ ap (λ (n : ℕ). not (nat_eq n 0)) (number_of-bits_of w a c.args.self.fits))
