use Rattle.std.proofs.Common.{◌≡◌, ℕ, ◌+◌, ◌*◌, ◌%◌, ◌^◌, ◌<◌, ◌≤◌, ap, arith}
use Rattle.std.proofs.lemmas.Nat.{shl_whole}
use Rattle.std.proofs.Math.Pow.{pow_mono}
use Rattle.word_core.proofs.Masks.{joined-lt}
use Rattle.word_core.proofs.word.Word.join.Goals as goal

-- nothing is moved out
stays : (a j k : ℕ) → a < 2 ^ j → j + k ≤ 128 → a * 2 ^ k % 2 ^ 128 ≡ a * 2 ^ k
stays a j k l h = shl_whole a j k 128 l h

fits_in : (a b j k : ℕ) → a < 2 ^ j → b < 2 ^ k → j + k ≤ 128 → a * 2 ^ k % 2 ^ 128 + b < 2 ^ (j + k)
fits_in a b j k la lb h = omega (arith, stays a j k la h, joined-lt a b j k la lb)

pub overflow_add-result-2 : goal.overflow_add-result-2
overflow_add-result-2 c =
    let f = fits_in c.args.self.bits c.args.low.bits c.args.self.width c.args.low.width c.args.self.fits c.args.low.fits c.requires in
    let whole : 2 ^ (c.args.self.width + c.args.low.width) ≤ 2 ^ 128 = pow_mono c.requires in
    omega (arith, f, whole)

pub invariant_of-result : goal.invariant_of-result
invariant_of-result c = record {
  not_empty = omega arith;
  at_most = c.requires;
  fits = fits_in c.args.self.bits c.args.low.bits c.args.self.width c.args.low.width c.args.self.fits c.args.low.fits c.requires;
}

pub returns-clause-bits : goal.returns-clause-bits
returns-clause-bits c = ap (λ (n : ℕ). n + c.args.low.bits) (stays c.args.self.bits c.args.self.width c.args.low.width c.args.self.fits c.requires)
