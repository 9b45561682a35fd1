use Rattle.std.proofs.Common.{◌≡◌, ℕ, ◌-◌, ◌%◌, ◌^◌, ◌<◌, ◌≤◌, ◌↔◌, IsTrue, Bool, true, false, nat_abs, sym, ap, ◌∙◌, subst}
use Rattle.word_core.specs.Words.{signed_of, word_neg, word_rem}
use Rattle.word_core.proofs.SignedLaws.{below_zero, sign_of, remainder_low, remainder_high}
use Rattle.word_core.proofs.word.Word.rem.Goals as goal

-- what the code's steps give, over plain variables
record Steps (w v a b x y : ℕ) (r signed : Bool) : Type 0 where
  pub widths : v ≡ w
  pub is_signed : signed ≡ true
  pub a_fits : a < 2 ^ w
  pub x_fits : x < 2 ^ w
  pub x_is : x ≡ nat_abs (signed_of w a)
  pub y_is : y ≡ nat_abs (signed_of v b)
  pub r_is : IsTrue r ↔ (2 ^ (w - 1) ≤ a)

module _ (w v a b x y : ℕ) (r signed : Bool) (c : Steps w v a b x y r signed) where
  remainder : x % y ≡ nat_abs (signed_of w a) % nat_abs (signed_of w b)
  remainder = λ j. c.x_is j % (c.y_is ∙ ap (λ (k : ℕ). nat_abs (signed_of k b)) c.widths) j

  left_sign : r ≡ below_zero (signed_of w a)
  left_sign = sign_of w a r c.a_fits c.r_is

  x_below : nat_abs (signed_of w a) < 2 ^ w
  x_below = subst (λ (n : ℕ). n < 2 ^ w) c.x_is c.x_fits

  by_sign : word_rem w true a b ≡ word_rem w signed a b
  by_sign = ap (λ (t : Bool). word_rem w t a b) (sym c.is_signed)

  not_below : r ≡ false → x % y ≡ word_rem w signed a b
  not_below e = remainder ∙ sym (remainder_low w (signed_of w a) (signed_of w b) x_below (sym left_sign ∙ e)) ∙ by_sign

  below : r ≡ true → word_neg w (x % y) ≡ word_rem w signed a b
  below e = ap (word_neg w) remainder ∙ sym (remainder_high w (signed_of w a) (signed_of w b) x_below (sym left_sign ∙ e)) ∙ by_sign

pub returns-else-is_negative-clause-bits : goal.returns-else-is_negative-clause-bits
returns-else-is_negative-clause-bits c =
    let steps : Steps c.args.self.width c.args.other.width c.args.self.bits c.args.other.bits c.magnitude.result.bits c.magnitude-2.result.bits c.is_negative.result c.args.signed = record {
      widths = c.requires.widths;
      is_signed = c.if-not-signed.false;
      a_fits = c.args.self.fits;
      x_fits = subst (λ (k : ℕ). c.magnitude.result.bits < 2 ^ k) c.magnitude.ensures.width c.magnitude.result.fits;
      x_is = c.magnitude.ensures.bits;
      y_is = c.magnitude-2.ensures.bits;
      r_is = c.is_negative.ensures;
    } in
    c.with_bits-remainder.ensures.bits ∙ not_below _ _ _ _ _ _ _ _ steps c.if-is_negative.false

pub returns-then-is_negative-clause-bits : goal.returns-then-is_negative-clause-bits
returns-then-is_negative-clause-bits c =
    let steps : Steps c.args.self.width c.args.other.width c.args.self.bits c.args.other.bits c.magnitude.result.bits c.magnitude-2.result.bits c.is_negative.result c.args.signed = record {
      widths = c.requires.widths;
      is_signed = c.if-not-signed.false;
      a_fits = c.args.self.fits;
      x_fits = subst (λ (k : ℕ). c.magnitude.result.bits < 2 ^ k) c.magnitude.ensures.width c.magnitude.result.fits;
      x_is = c.magnitude.ensures.bits;
      y_is = c.magnitude-2.ensures.bits;
      r_is = c.is_negative.ensures;
    } in
    c.neg.ensures.bits
    ∙ (λ j. word_neg (c.with_bits-remainder.ensures.width j) (c.with_bits-remainder.ensures.bits j))
    ∙ below _ _ _ _ _ _ _ _ steps c.if-is_negative.true
