use Rattle.std.proofs.Common.{◌^◌, ◌≤◌, Bool, sym, ap, ◌∙◌, arith}
use Rattle.std.proofs.Math.Pow.{pow_mono}
use Rattle.word_core.specs.Words.{word_extend}
use Rattle.word_core.proofs.Masks.{wider}
use Rattle.word_core.proofs.SignedLaws.{extend_high}
use Rattle.word_core.proofs.word.Word.extend.Goals as goal

pub overflow_sub-result-then-is_negative : goal.overflow_sub-result-then-is_negative
overflow_sub-result-then-is_negative c =
    let le : 2 ^ c.args.self.width ≤ 2 ^ c.args.width = pow_mono c.requires.not_narrower in
    omega (arith, le)

pub returns-then-is_negative-clause-bits : goal.returns-then-is_negative-clause-bits
returns-then-is_negative-clause-bits c =
    extend_high c.args.self.width c.args.width c.args.self.bits c.mask.result c.mask-then-is_negative.result (c.is_negative.ensures.0 c.if-is_negative.true) c.args.self.fits c.requires.not_narrower c.mask.ensures c.mask-then-is_negative.ensures
    ∙ sym (ap (λ (s : Bool). word_extend c.args.self.width c.args.width s c.args.self.bits) c.if-signed.true)

pub invariant_of-result-2 : goal.invariant_of-result-2
invariant_of-result-2 c = record {
  not_empty = omega arith;
  at_most = c.requires.at_most;
  fits = wider c.args.self.bits c.args.self.width c.args.width c.requires.not_narrower c.args.self.fits;
}
