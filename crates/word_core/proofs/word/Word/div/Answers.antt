use Rattle.std.proofs.Common.{◌≡◌, ◌≢◌, ℕ, ◌/◌, ◌-◌, ◌^◌, ◌<◌, ◌≤◌, ◌↔◌, IsTrue, Bool, true, false, nat_abs, refl, sym, ap, ◌∙◌, subst}
use Rattle.std.specs.Bool.{beq}
use Rattle.word_core.specs.Words.{signed_of, word_neg, word_div}
use Rattle.word_core.proofs.SignedLaws.{below_zero, sign_of, quotient_same, quotient_other}
use Rattle.word_core.proofs.word.Word.div.Goals as goal

same : (a b : Bool) → beq a b ≡ true → a ≡ b
same true true e = refl
same true false e = cc
same false true e = cc
same false false e = refl

differ : (a b : Bool) → beq a b ≡ false → a ≢ b
differ true true e = cc
differ true false e = λ h. cc
differ false true e = λ h. cc
differ false false e = cc

-- what the code's steps give, over plain variables
record Steps (w v a b x y : ℕ) (r s signed : Bool) : Type 0 where
  pub widths : v ≡ w
  pub is_signed : signed ≡ true
  pub a_fits : a < 2 ^ w
  pub b_fits : b < 2 ^ v
  pub x_fits : x < 2 ^ w
  pub x_is : x ≡ nat_abs (signed_of w a)
  pub y_is : y ≡ nat_abs (signed_of v b)
  pub r_is : IsTrue r ↔ (2 ^ (w - 1) ≤ a)
  pub s_is : IsTrue s ↔ (2 ^ (v - 1) ≤ b)

module _ (w v a b x y : ℕ) (r s signed : Bool) (c : Steps w v a b x y r s signed) where
  quotient : x / y ≡ nat_abs (signed_of w a) / nat_abs (signed_of w b)
  quotient = λ j. c.x_is j / (c.y_is ∙ ap (λ (k : ℕ). nat_abs (signed_of k b)) c.widths) j

  left_sign : r ≡ below_zero (signed_of w a)
  left_sign = sign_of w a r c.a_fits c.r_is

  right_sign : s ≡ below_zero (signed_of w b)
  right_sign = sign_of v b s c.b_fits c.s_is ∙ ap (λ (k : ℕ). below_zero (signed_of k b)) c.widths

  x_below : nat_abs (signed_of w a) < 2 ^ w
  x_below = subst (λ (n : ℕ). n < 2 ^ w) c.x_is c.x_fits

  by_sign : word_div w true a b ≡ word_div w signed a b
  by_sign = ap (λ (t : Bool). word_div w t a b) (sym c.is_signed)

  alike : r ≡ s → x / y ≡ word_div w signed a b
  alike e = quotient ∙ sym (quotient_same w (signed_of w a) (signed_of w b) x_below (sym left_sign ∙ e ∙ right_sign)) ∙ by_sign

  unlike : r ≢ s → word_neg w (x / y) ≡ word_div w signed a b
  unlike ne = ap (word_neg w) quotient ∙ sym (quotient_other w (signed_of w a) (signed_of w b) x_below (λ e. ne (left_sign ∙ e ∙ sym right_sign))) ∙ by_sign

pub returns-then-is_negative-clause-bits : goal.returns-then-is_negative-clause-bits
returns-then-is_negative-clause-bits c =
    let steps : Steps c.args.self.width c.args.other.width c.args.self.bits c.args.other.bits c.magnitude.result.bits c.magnitude-2.result.bits c.is_negative.result c.is_negative-2.result c.args.signed = record {
      widths = c.requires.widths;
      is_signed = c.if-not-signed.false;
      a_fits = c.args.self.fits;
      b_fits = c.args.other.fits;
      x_fits = subst (λ (k : ℕ). c.magnitude.result.bits < 2 ^ k) c.magnitude.ensures.width c.magnitude.result.fits;
      x_is = c.magnitude.ensures.bits;
      y_is = c.magnitude-2.ensures.bits;
      r_is = c.is_negative.ensures;
      s_is = c.is_negative-2.ensures;
    } in
    c.with_bits-quotient.ensures.bits ∙ alike _ _ _ _ _ _ _ _ _ steps (same _ _ c.if-is_negative.true)

pub returns-else-is_negative-clause-bits : goal.returns-else-is_negative-clause-bits
returns-else-is_negative-clause-bits c =
    let steps : Steps c.args.self.width c.args.other.width c.args.self.bits c.args.other.bits c.magnitude.result.bits c.magnitude-2.result.bits c.is_negative.result c.is_negative-2.result c.args.signed = record {
      widths = c.requires.widths;
      is_signed = c.if-not-signed.false;
      a_fits = c.args.self.fits;
      b_fits = c.args.other.fits;
      x_fits = subst (λ (k : ℕ). c.magnitude.result.bits < 2 ^ k) c.magnitude.ensures.width c.magnitude.result.fits;
      x_is = c.magnitude.ensures.bits;
      y_is = c.magnitude-2.ensures.bits;
      r_is = c.is_negative.ensures;
      s_is = c.is_negative-2.ensures;
    } in
    c.neg.ensures.bits
    ∙ (λ j. word_neg (c.with_bits-quotient.ensures.width j) (c.with_bits-quotient.ensures.bits j))
    ∙ unlike _ _ _ _ _ _ _ _ _ steps (differ _ _ c.if-is_negative.false)
