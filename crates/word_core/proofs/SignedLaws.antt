-- Signed values of words.
use Rattle.std.proofs.Common.{◌≡◌, ◌≢◌, ℕ, zero, suc, ◌-◌, ◌*◌, ◌/◌, ◌%◌, ◌^◌, ◌<◌, ◌≤◌, nat_abs, Bool, true, false, cond, ℤ, pos, negsuc, ◌-ℤ◌, neg_ℤ, ◌↔◌, IsTrue, ◌⊎◌, inl, inr, refl, sym, ap, ◌∙◌, arith}
use Rattle.std.proofs.lemmas.Bool.{lt-ltb, le-ltb, cases_lt}
use Rattle.std.proofs.lemmas.Int.{ints}
use Rattle.std.specs.Int.RustNames.{int_div, int_rem}
use Rattle.std.proofs.Math.Nat.{pow-suc, zero-mod, mod_self, mod-eq_of_lt, div-le_self, mod-le, lt_of_le_of_lt}
use Rattle.word_core.specs.Words.{signed_of, word_of, halved, word_not, word_neg, word_sshr}
use Rattle.word_core.proofs.Masks.{wider}
use Rattle.word_core.proofs.WordLaws.{word_not-is}

-- the least number with the top bit
pub top_half : (w : ℕ) → 1 ≤ w → 2 ^ w ≡ 2 ^ (w - 1) * 2
top_half w h = let e : w ≡ suc (w - 1) = omega arith in ap (λ (k : ℕ). 2 ^ k) e ∙ pow-suc 2 (w - 1)

less_all : (a m : ℕ) → a < m → pos a -ℤ pos m ≡ negsuc (m - 1 - a)
less_all a m h = omega (arith, ints)

pub signed_low : (w a : ℕ) → a < 2 ^ (w - 1) → signed_of w a ≡ pos a
signed_low w a h = ap (λ (b : Bool). cond b (pos a) (pos a -ℤ pos (2 ^ w))) (lt-ltb a (2 ^ (w - 1)) h)

pub signed_high : (w a : ℕ) → 2 ^ (w - 1) ≤ a → a < 2 ^ w → signed_of w a ≡ negsuc (2 ^ w - 1 - a)
signed_high w a h l = ap (λ (b : Bool). cond b (pos a) (pos a -ℤ pos (2 ^ w))) (le-ltb a (2 ^ (w - 1)) h) ∙ less_all a (2 ^ w) l

-- the word of a negative
pub word_of-neg : (w n : ℕ) → n < 2 ^ w → word_of w (neg_ℤ (pos n)) ≡ word_neg w n
word_of-neg w zero h =
    let whole : 2 ^ w ≡ 2 ^ w - 0 = omega arith in
    zero-mod (2 ^ w) ∙ sym (mod_self (2 ^ w)) ∙ ap (λ (n : ℕ). n % 2 ^ w) whole
word_of-neg w (suc n) h =
    let small : n % 2 ^ w ≡ n = mod-eq_of_lt (omega arith) in
    let less : (2 ^ w - suc n) % 2 ^ w ≡ 2 ^ w - suc n = mod-eq_of_lt (omega arith) in
    omega (arith, small, less)

-- ---- signs

abbrev pub below_zero : ℤ → Bool
below_zero (pos n) = false
below_zero (negsuc n) = true

pub sign_of : (w a : ℕ) (r : Bool) → a < 2 ^ w → (IsTrue r ↔ (2 ^ (w - 1) ≤ a)) → r ≡ below_zero (signed_of w a)
sign_of w a true l h = sym (ap below_zero (signed_high w a (h.0 refl) l))
sign_of w a false l h = by (cases_lt a (2 ^ (w - 1)))
  where
    by : (a < 2 ^ (w - 1)) ⊎ (2 ^ (w - 1) ≤ a) → false ≡ below_zero (signed_of w a)
    by (inl lt) = sym (ap below_zero (signed_low w a lt))
    by (inr le) = absurd (clash (h.1 le))
      where
        clash : false ≡ true → ⊥
        clash e = cc

-- ---- quotients and remainders, by absolute values

quotient_fits : (w a b : ℕ) → a < 2 ^ w → a / b < 2 ^ w
quotient_fits w a b h = lt_of_le_of_lt (div-le_self a b) h

pub quotient_same : (w : ℕ) (x y : ℤ) → nat_abs x < 2 ^ w → below_zero x ≡ below_zero y → word_of w (int_div x y) ≡ nat_abs x / nat_abs y
quotient_same w (pos a) (pos b) h e = mod-eq_of_lt (quotient_fits w a b h)
quotient_same w (pos a) (negsuc b) h e = cc
quotient_same w (negsuc a) (pos b) h e = cc
quotient_same w (negsuc a) (negsuc b) h e = mod-eq_of_lt (quotient_fits w (suc a) (suc b) h)

pub quotient_other : (w : ℕ) (x y : ℤ) → nat_abs x < 2 ^ w → below_zero x ≢ below_zero y → word_of w (int_div x y) ≡ word_neg w (nat_abs x / nat_abs y)
quotient_other w (pos a) (pos b) h e = absurd (e refl)
quotient_other w (pos a) (negsuc b) h e = word_of-neg w (a / suc b) (quotient_fits w a (suc b) h)
quotient_other w (negsuc a) (pos b) h e = word_of-neg w (suc a / b) (quotient_fits w (suc a) b h)
quotient_other w (negsuc a) (negsuc b) h e = absurd (e refl)

remainder_fits : (w a b : ℕ) → a < 2 ^ w → a % b < 2 ^ w
remainder_fits w a b h = lt_of_le_of_lt (mod-le a b) h

pub remainder_low : (w : ℕ) (x y : ℤ) → nat_abs x < 2 ^ w → below_zero x ≡ false → word_of w (int_rem x y) ≡ nat_abs x % nat_abs y
remainder_low w (pos a) y h e = mod-eq_of_lt (remainder_fits w a (nat_abs y) h)
remainder_low w (negsuc a) y h e = cc

pub remainder_high : (w : ℕ) (x y : ℤ) → nat_abs x < 2 ^ w → below_zero x ≡ true → word_of w (int_rem x y) ≡ word_neg w (nat_abs x % nat_abs y)
remainder_high w (pos a) y h e = cc
remainder_high w (negsuc a) y h e = word_of-neg w (suc a % nat_abs y) (remainder_fits w (suc a) (nat_abs y) h)

-- ---- shifts and extension

pub sshr_low : (w a k : ℕ) → a < 2 ^ (w - 1) → a < 2 ^ w → word_sshr w a k ≡ a / 2 ^ k
sshr_low w a k h l = ap (λ (z : ℤ). word_of w (halved k z)) (signed_low w a h) ∙ mod-eq_of_lt (quotient_fits w a (2 ^ k) l)

pub sshr_high : (w a k : ℕ) → 2 ^ (w - 1) ≤ a → a < 2 ^ w → word_sshr w a k ≡ word_not w (word_not w a / 2 ^ k)
sshr_high w a k h l =
    let n : 2 ^ w - 1 - a < 2 ^ w = omega arith in
    let q = quotient_fits w (2 ^ w - 1 - a) (2 ^ k) n in
    ap (λ (z : ℤ). word_of w (halved k z)) (signed_high w a h l)
    ∙ ap (λ (m : ℕ). 2 ^ w - 1 - m) (mod-eq_of_lt q)
    ∙ sym (ap (λ (m : ℕ). word_not w (m / 2 ^ k)) (word_not-is w a l) ∙ word_not-is w ((2 ^ w - 1 - a) / 2 ^ k) q)

pub extend_low : (w v a : ℕ) → a < 2 ^ (w - 1) → a < 2 ^ w → w ≤ v → word_of v (signed_of w a) ≡ a
extend_low w v a h l le = ap (word_of v) (signed_low w a h) ∙ mod-eq_of_lt (wider a w v le l)

pub extend_high : (w v a m k : ℕ) → 2 ^ (w - 1) ≤ a → a < 2 ^ w → w ≤ v → m ≡ 2 ^ v - 1 → k ≡ 2 ^ w - 1 → m - (k - a) ≡ word_of v (signed_of w a)
extend_high w v a m k h l le em ek =
    let n : 2 ^ w - 1 - a < 2 ^ w = omega arith in
    (λ j. em j - (ek j - a)) ∙ sym (ap (word_of v) (signed_high w a h l) ∙ ap (λ (n : ℕ). 2 ^ v - 1 - n) (mod-eq_of_lt (wider (2 ^ w - 1 - a) w v le n)))
