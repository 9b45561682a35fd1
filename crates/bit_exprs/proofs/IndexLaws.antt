-- Indices as natural numbers, and their words.
use Rattle.std.proofs.Common.{◌≡◌, ◌≢◌, ℕ, suc, ◌+◌, ◌-◌, ◌*◌, ◌^◌, ◌<◌, ◌≤◌, nat_eq, nat_lt, nat_abs, Bool, true, false, cond, Option, Some, None, ℤ, pos, negsuc, ◌-ℤ◌, ◌⊎◌, inl, inr, refl, sym, ap, ◌∙◌, arith}
use Rattle.std.specs.Ordering.{int_eq}
use Rattle.std.proofs.lemmas.Bool.{lt-ltb, le-ltb, cases_lt}
use Rattle.std.proofs.lemmas.Bool.Decides.{same_from_decides, Decides-eqb, Decides-int_eq}
use Rattle.std.proofs.lemmas.Int.{ints}
use Rattle.std.proofs.Math.Nat.{mod-eq_of_lt}
use Rattle.word_core.specs.Words.{signed_of, word_neg}
use Rattle.word_core.proofs.SignedLaws.{top_half, signed_low, signed_high}
use Rattle.bit_exprs.specs.declared.forms.Window.{Window}
use Rattle.bit_exprs.specs.Values.{index_of, is_index}
use Rattle.bit_exprs.specs.Indices.{up_of, down_of, code_of, is_code, names_place}

-- ---- an index is a difference

ends : (r d : Bool) (right k p n : ℕ) →
    cond r (cond d (pos (right + k) -ℤ pos p) (pos (right + k) -ℤ pos (p + n))) (cond d (pos (right + p + n) -ℤ pos k) (pos (right + p) -ℤ pos k))
    ≡ pos (cond r (right + k) (cond d (right + p + n) (right + p))) -ℤ pos (cond r (cond d p (p + n)) k)
ends true true right k p n = refl
ends true false right k p n = refl
ends false true right k p n = refl
ends false false right k p n = refl

index_is : (window : Window) (k p : ℕ) → index_of window k p ≡ pos (up_of window k p) -ℤ pos (down_of window k p)
index_is window k p = ends window.rising window.down window.right k p (window.count - 1)

over : (up down : ℕ) → down ≤ up → pos up -ℤ pos down ≡ pos (up - down)
over up down h = omega (arith, ints)

under : (up down : ℕ) → up < down → pos up -ℤ pos down ≡ negsuc (down - up - 1)
under up down h = omega (arith, ints)

-- ---- tests of integers

clash : false ≡ true → ⊥
clash e = cc

int_differs : (x y : ℤ) → x ≢ y → false ≡ int_eq x y
int_differs x y ne = same_from_decides false (int_eq x y) ((λ e. absurd (clash e)), (λ p. absurd (ne p))) (Decides-int_eq x y)

int_same : (m n : ℕ) (x y : ℤ) → (m ≡ n → x ≡ y) → (x ≡ y → m ≡ n) → nat_eq m n ≡ int_eq x y
int_same m n x y there back =
    let d = Decides-eqb m n in
    same_from_decides (nat_eq m n) (int_eq x y) ((λ e. there (d.0 e)), (λ p. d.1 (back p))) (Decides-int_eq x y)

pos_same : (a b : ℕ) → pos a ≡ pos b → a ≡ b
pos_same a b e = ap nat_abs e

negsuc_same : (a b : ℕ) → negsuc a ≡ negsuc b → a ≡ b
negsuc_same a b e = let s : suc a ≡ suc b = ap nat_abs e in omega (arith, s)

mixed : (a b : ℕ) → pos a ≡ negsuc b → ⊥
mixed a b e = cc

-- ---- words of indices

-- a word that stands for a number, against an index that is one
low_over : (z : ℤ) (a l m : ℕ) → z ≡ pos a → a < l → is_code (cond (nat_lt m l) (Some m) None) a ≡ int_eq z (pos m)
low_over z a l m h lt = by (cases_lt m l)
  where
    by : (m < l) ⊎ (l ≤ m) → is_code (cond (nat_lt m l) (Some m) None) a ≡ int_eq z (pos m)
    by (inl y) = ap (λ b. is_code (cond b (Some m) None) a) (lt-ltb m l y) ∙ int_same m a z (pos m) (λ e. h ∙ ap pos (sym e)) (λ e. pos_same m a (sym e ∙ h))
    by (inr n) = ap (λ b. is_code (cond b (Some m) None) a) (le-ltb m l n) ∙ int_differs z (pos m) (λ e. omega (arith, pos_same a m (sym h ∙ e)))

-- one that stands for a negative number
high_over : (z : ℤ) (a l m n : ℕ) → z ≡ negsuc n → l ≤ a → is_code (cond (nat_lt m l) (Some m) None) a ≡ int_eq z (pos m)
high_over z a l m n h le = by (cases_lt m l)
  where
    by : (m < l) ⊎ (l ≤ m) → is_code (cond (nat_lt m l) (Some m) None) a ≡ int_eq z (pos m)
    by (inl y) = ap (λ b. is_code (cond b (Some m) None) a) (lt-ltb m l y) ∙ int_same m a z (pos m) (λ e. absurd (omega (arith, e))) (λ e. absurd (mixed m n (sym e ∙ h)))
    by (inr o) = ap (λ b. is_code (cond b (Some m) None) a) (le-ltb m l o) ∙ int_differs z (pos m) (λ e. mixed m n (sym e ∙ h))

-- the same against a negative index
low_under : (z : ℤ) (a l f k c : ℕ) → z ≡ pos a → a < l → f ≡ l * 2 → c ≡ f - k → is_code (cond (nat_lt l k) None (Some c)) a ≡ int_eq z (negsuc (k - 1))
low_under z a l f k c h lt ef ec = by (cases_lt l k)
  where
    by : (l < k) ⊎ (k ≤ l) → is_code (cond (nat_lt l k) None (Some c)) a ≡ int_eq z (negsuc (k - 1))
    by (inl y) = ap (λ b. is_code (cond b None (Some c)) a) (lt-ltb l k y) ∙ int_differs z (negsuc (k - 1)) (λ e. mixed a (k - 1) (sym h ∙ e))
    by (inr n) = ap (λ b. is_code (cond b None (Some c)) a) (le-ltb l k n) ∙ int_same c a z (negsuc (k - 1)) (λ e. absurd (omega (arith, e))) (λ e. absurd (mixed a (k - 1) (sym h ∙ e)))

high_under : (z : ℤ) (a l f k c : ℕ) → z ≡ negsuc (f - 1 - a) → l ≤ a → a < f → f ≡ l * 2 → 1 ≤ k → c ≡ f - k →
    is_code (cond (nat_lt l k) None (Some c)) a ≡ int_eq z (negsuc (k - 1))
high_under z a l f k c h le lt ef some ec = by (cases_lt l k)
  where
    by : (l < k) ⊎ (k ≤ l) → is_code (cond (nat_lt l k) None (Some c)) a ≡ int_eq z (negsuc (k - 1))
    by (inl y) = ap (λ b. is_code (cond b None (Some c)) a) (lt-ltb l k y) ∙ int_differs z (negsuc (k - 1)) (λ e. omega (arith, negsuc_same (f - 1 - a) (k - 1) (sym h ∙ e)))
    by (inr n) =
        ap (λ b. is_code (cond b None (Some c)) a) (le-ltb l k n)
        ∙ int_same c a z (negsuc (k - 1)) (λ e. let s : f - 1 - a ≡ k - 1 = omega (arith, e) in h ∙ ap negsuc s) (λ e. omega (arith, negsuc_same (f - 1 - a) (k - 1) (sym h ∙ e)))

neg_is : (w k : ℕ) → 1 ≤ k → k ≤ 2 ^ w → word_neg w k ≡ 2 ^ w - k
neg_is w k some le = mod-eq_of_lt (omega arith)

-- the code is for the word alone that has this value as an index
module _ (w a up down : ℕ) (wide : 1 ≤ w) (fits : a < 2 ^ w) where
  abbrev code_at : (l : ℕ) → Option ℕ
  code_at l = cond (nat_lt (up - down) l) (Some (up - down)) None

  abbrev below_at : Option ℕ
  below_at = cond (nat_lt (2 ^ (w - 1)) (down - up)) None (Some (word_neg w (down - up)))

  -- a negative index and its word, where it has one
  below_is : (z : ℤ) → ((c : ℕ) → c ≡ 2 ^ w - (down - up) → is_code (cond (nat_lt (2 ^ (w - 1)) (down - up)) None (Some c)) a ≡ int_eq z (negsuc (down - up - 1))) → up < down →
      is_code below_at a ≡ int_eq z (negsuc (down - up - 1))
  below_is z by lt = cases (cases_lt (2 ^ (w - 1)) (down - up))
    where
      cases : (2 ^ (w - 1) < down - up) ⊎ (down - up ≤ 2 ^ (w - 1)) → is_code below_at a ≡ int_eq z (negsuc (down - up - 1))
      cases (inl y) =
          let same : nat_lt (2 ^ (w - 1)) (down - up) ≡ true = lt-ltb (2 ^ (w - 1)) (down - up) y in
          ap (λ b. is_code (cond b None (Some (word_neg w (down - up)))) a) same
          ∙ sym (ap (λ b. is_code (cond b None (Some (2 ^ w - (down - up)))) a) same) ∙ by (2 ^ w - (down - up)) refl
      cases (inr n) = by (word_neg w (down - up)) (neg_is w (down - up) (omega arith) (omega (arith, top_half w wide)))

  pub code_is : (signed : Bool) → is_code (code_of w signed up down) a ≡ is_index w signed a (pos up -ℤ pos down)
  code_is false = by (cases_lt up down)
    where
      by : (up < down) ⊎ (down ≤ up) → is_code (code_of w false up down) a ≡ int_eq (pos a) (pos up -ℤ pos down)
      by (inl y) =
          ap (λ b. is_code (cond b None (code_at (2 ^ w))) a) (lt-ltb up down y)
          ∙ int_differs (pos a) (pos up -ℤ pos down) (λ e. mixed a (down - up - 1) (e ∙ under up down y))
      by (inr n) =
          ap (λ b. is_code (cond b None (code_at (2 ^ w))) a) (le-ltb up down n) ∙ low_over (pos a) a (2 ^ w) (up - down) refl fits
          ∙ ap (int_eq (pos a)) (sym (over up down n))
  code_is true = by (cases_lt up down) (cases_lt a (2 ^ (w - 1)))
    where
      by : (up < down) ⊎ (down ≤ up) → (a < (2 ^ (w - 1))) ⊎ ((2 ^ (w - 1)) ≤ a) → is_code (code_of w true up down) a ≡ int_eq (signed_of w a) (pos up -ℤ pos down)
      by (inl y) (inl low) =
          ap (λ b. is_code (cond b below_at (code_at (2 ^ (w - 1)))) a) (lt-ltb up down y)
          ∙ below_is (signed_of w a) (λ c e. low_under (signed_of w a) a (2 ^ (w - 1)) (2 ^ w) (down - up) c (signed_low w a low) low (top_half w wide) e) y
          ∙ ap (int_eq (signed_of w a)) (sym (under up down y))
      by (inl y) (inr high) =
          ap (λ b. is_code (cond b below_at (code_at (2 ^ (w - 1)))) a) (lt-ltb up down y)
          ∙ below_is (signed_of w a) (λ c e. high_under (signed_of w a) a (2 ^ (w - 1)) (2 ^ w) (down - up) c (signed_high w a high fits) high fits (top_half w wide) (omega arith) e) y
          ∙ ap (int_eq (signed_of w a)) (sym (under up down y))
      by (inr n) (inl low) =
          ap (λ b. is_code (cond b below_at (code_at (2 ^ (w - 1)))) a) (le-ltb up down n) ∙ low_over (signed_of w a) a (2 ^ (w - 1)) (up - down) (signed_low w a low) low
          ∙ ap (int_eq (signed_of w a)) (sym (over up down n))
      by (inr n) (inr high) =
          ap (λ b. is_code (cond b below_at (code_at (2 ^ (w - 1)))) a) (le-ltb up down n)
          ∙ high_over (signed_of w a) a (2 ^ (w - 1)) (up - down) (2 ^ w - 1 - a) (signed_high w a high fits) high
          ∙ ap (int_eq (signed_of w a)) (sym (over up down n))

pub names_code : (window : Window) (w : ℕ) (signed : Bool) (a k p : ℕ) → 1 ≤ w → a < 2 ^ w → is_code (code_of w signed (up_of window k p) (down_of window k p)) a ≡ names_place window w signed a k p
names_code window w signed a k p wide fits =
    code_is w a (up_of window k p) (down_of window k p) wide fits signed ∙ ap (is_index w signed a) (sym (index_is window k p))

pub names_by : (window : Window) (w : ℕ) (signed : Bool) (a k p up down : ℕ) (r s : Option ℕ) → 1 ≤ w → a < 2 ^ w → up ≡ up_of window k p → down ≡ down_of window k p →
    r ≡ code_of w signed up down → r ≡ s → is_code s a ≡ names_place window w signed a k p
names_by window w signed a k p up down r s wide fits eu ed e es =
    ap (λ c. is_code c a) (sym es ∙ e) ∙ (λ j. is_code (code_of w signed (eu j) (ed j)) a) ∙ names_code window w signed a k p wide fits
