use Rattle.std.proofs.Common.{◌≡◌, ◌+◌, ◌-◌, ◌^◌, ◌<◌, ℕ, nat_eq, sym, ◌∙◌, arith}
use Rattle.std.proofs.lemmas.Nat.{pow_pos}
use Rattle.word_core.specs.Words.{bits_of, all}
use Rattle.word_core.proofs.WordLaws.{all-is, same_test, number_of-bits_of, length-bits_of}
use Rattle.word_core.proofs.word.Word.all.Goals as goal

greatest : (w a m : ℕ) → a < 2 ^ w → m ≡ 2 ^ w - 1 → nat_eq a m ≡ all (bits_of w a)
greatest w a m h e =
    let some = pow_pos w in
    same_test a m (a + 1) (2 ^ w) (λ q. omega arith) (λ q. omega arith)
    ∙ sym (all-is (bits_of w a) ∙ (λ j. nat_eq (number_of-bits_of w a h j + 1) (2 ^ length-bits_of w a j)))

pub returns : goal.returns
returns c = greatest c.args.self.width c.args.self.bits c.mask.result c.args.self.fits c.mask.ensures
