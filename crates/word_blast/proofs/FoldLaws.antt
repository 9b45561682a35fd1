-- Reductions and comparisons of bits, as folds.
use Rattle.std.proofs.Common.{◌≡◌, ℕ, zero, suc, ◌+◌, ◌-◌, ◌*◌, ◌^◌, ◌<◌, ◌≤◌, nat_eq, nat_lt, Bool, true, false, not, ◌&&◌, ◌||◌, List, [], ◌∷◌, length, refl, sym, ap, ◌∙◌, arith, ◌⊎◌, inl, inr}
use Rattle.std.specs.List.{zip}
use Rattle.std.specs.Int.RustNames.{int_lt}
use Rattle.std.proofs.lemmas.Bool.{cases_lt, lt-ltb, le-ltb, ne_eqb}
use Rattle.std.proofs.Math.Nat.{pow-suc}
use Rattle.aig_core.specs.Graph.{Graph, value_of}
use Rattle.aig_core.proofs.Values.{value_of-negation}
use Rattle.word_core.specs.Words.{bit, number_of, xor, any, all, odd, signed_of, word_less}
use Rattle.word_core.proofs.WordLaws.{bit-lt, same_test, number_of-lt}
use Rattle.word_core.proofs.SignedLaws.{signed_low, signed_high, top_half}
use Rattle.word_blast.specs.Words.{spelled, top_negated}
use Rattle.word_blast.proofs.Combinators.{folded}
use Rattle.word_blast.proofs.GateLaws.{equal_bit, borrow_bit}

-- ---- reductions

pub folded_or : (b : Bool) (bs : List Bool) → folded ◌||◌ b bs ≡ (b || any bs)
folded_or true [] = refl
folded_or false [] = refl
folded_or true (x ∷ bs) = folded_or true bs
folded_or false (x ∷ bs) = folded_or x bs

pub folded_and : (b : Bool) (bs : List Bool) → folded ◌&&◌ b bs ≡ (b && all bs)
folded_and true [] = refl
folded_and false [] = refl
folded_and true (x ∷ bs) = folded_and x bs
folded_and false (x ∷ bs) = folded_and false bs

pub folded_xor : (b : Bool) (bs : List Bool) → folded xor b bs ≡ xor b (odd bs)
folded_xor b [] = right b
  where
    right : (b : Bool) → b ≡ xor b false
    right true = refl
    right false = refl
folded_xor b (x ∷ bs) = folded_xor (xor b x) bs ∙ turned b x (odd bs)
  where
    turned : (a b c : Bool) → xor (xor a b) c ≡ xor a (xor b c)
    turned false b c = refl
    turned true false c = refl
    turned true true false = refl
    turned true true true = refl

-- ---- equality

other_test : (k l : ℕ) → (k ≡ l → ⊥) → false ≡ nat_eq k l
other_test k l ne = sym (ne_eqb k l ne)

-- a bit more
equal_more : (x y : Bool) (m n : ℕ) → (not (xor x y) && nat_eq m n) ≡ nat_eq (bit x + 2 * m) (bit y + 2 * n)
equal_more true true m n = same_test m n (1 + 2 * m) (1 + 2 * n) (λ e. omega arith) (λ e. omega arith)
equal_more true false m n = other_test (1 + 2 * m) (0 + 2 * n) (λ e. omega arith)
equal_more false true m n = other_test (0 + 2 * m) (1 + 2 * n) (λ e. omega arith)
equal_more false false m n = same_test m n (0 + 2 * m) (0 + 2 * n) (λ e. omega arith) (λ e. omega arith)

pub folded_equal : (b : Bool) (xs ys : List Bool) → length ys ≡ length xs → folded equal_bit b (zip xs ys) ≡ (b && nat_eq (number_of xs) (number_of ys))
folded_equal b [] [] len = right b
  where
    right : (b : Bool) → b ≡ (b && true)
    right true = refl
    right false = refl
folded_equal b [] (y ∷ ys) len = absurd (omega arith)
folded_equal b (x ∷ xs) [] len = absurd (omega arith)
folded_equal b (x ∷ xs) (y ∷ ys) len =
    folded_equal (b && not (xor x y)) xs ys (omega arith) ∙ turned b (not (xor x y)) (nat_eq (number_of xs) (number_of ys)) ∙ ap (λ (t : Bool). b && t) (equal_more x y (number_of xs) (number_of ys))
  where
    turned : (a b c : Bool) → ((a && b) && c) ≡ (a && (b && c))
    turned true b c = refl
    turned false b c = refl

-- ---- order

pub same_less : (m n k l : ℕ) → (m < n → k < l) → (k < l → m < n) → nat_lt m n ≡ nat_lt k l
same_less m n k l there back = by (cases_lt m n)
  where
    by : (m < n) ⊎ (n ≤ m) → nat_lt m n ≡ nat_lt k l
    by (inl h) = lt-ltb m n h ∙ sym (lt-ltb k l (there h))
    by (inr h) = le-ltb m n h ∙ sym (le-ltb k l (not_back (cases_lt k l)))
      where
        not_back : (k < l) ⊎ (l ≤ k) → l ≤ k
        not_back (inl lt) = absurd (omega (arith, back lt))
        not_back (inr le) = le

-- a bit more
borrow_more : (c x y : Bool) (m n : ℕ) → nat_lt n (m + bit (borrow_bit c (x, y))) ≡ nat_lt (bit y + 2 * n) (bit x + 2 * m + bit c)
borrow_more true true true m n = same_less n (m + 1) (1 + 2 * n) (1 + 2 * m + 1) (λ e. omega arith) (λ e. omega arith)
borrow_more false true true m n = same_less n (m + 0) (1 + 2 * n) (1 + 2 * m + 0) (λ e. omega arith) (λ e. omega arith)
borrow_more true true false m n = same_less n (m + 1) (0 + 2 * n) (1 + 2 * m + 1) (λ e. omega arith) (λ e. omega arith)
borrow_more false true false m n = same_less n (m + 1) (0 + 2 * n) (1 + 2 * m + 0) (λ e. omega arith) (λ e. omega arith)
borrow_more true false true m n = same_less n (m + 0) (1 + 2 * n) (0 + 2 * m + 1) (λ e. omega arith) (λ e. omega arith)
borrow_more false false true m n = same_less n (m + 0) (1 + 2 * n) (0 + 2 * m + 0) (λ e. omega arith) (λ e. omega arith)
borrow_more true false false m n = same_less n (m + 1) (0 + 2 * n) (0 + 2 * m + 1) (λ e. omega arith) (λ e. omega arith)
borrow_more false false false m n = same_less n (m + 0) (0 + 2 * n) (0 + 2 * m + 0) (λ e. omega arith) (λ e. omega arith)

folded_borrow : (c : Bool) (xs ys : List Bool) → length ys ≡ length xs → folded borrow_bit c (zip xs ys) ≡ nat_lt (number_of ys) (number_of xs + bit c)
folded_borrow true [] [] len = refl
folded_borrow false [] [] len = refl
folded_borrow c [] (y ∷ ys) len = absurd (omega arith)
folded_borrow c (x ∷ xs) [] len = absurd (omega arith)
folded_borrow c (x ∷ xs) (y ∷ ys) len = folded_borrow (borrow_bit c (x, y)) xs ys (omega arith) ∙ borrow_more c x y (number_of xs) (number_of ys)

-- nothing is borrowed at the top: not below
pub folded_less : (xs ys : List Bool) → length ys ≡ length xs → not (folded borrow_bit true (zip xs ys)) ≡ nat_lt (number_of xs) (number_of ys)
folded_less xs ys len = ap not (folded_borrow true xs ys len) ∙ by (cases_lt (number_of xs) (number_of ys))
  where
    m : ℕ
    m = number_of xs

    n : ℕ
    n = number_of ys

    by : (m < n) ⊎ (n ≤ m) → not (nat_lt n (m + 1)) ≡ nat_lt m n
    by (inl h) = ap not (le-ltb n (m + 1) (omega arith)) ∙ sym (lt-ltb m n h)
    by (inr h) = ap not (lt-ltb n (m + 1) (omega arith)) ∙ sym (le-ltb m n h)

-- ---- signed order: the top bits are negated

abbrev pub top_flipped : List Bool → List Bool
top_flipped [] = []
top_flipped (b ∷ []) = not b ∷ []
top_flipped (b ∷ c ∷ bs) = b ∷ top_flipped (c ∷ bs)

pub spelled-top_negated : (g : Graph) (leaves : List Bool) (xs : List ℕ) → spelled g leaves (top_negated xs) ≡ top_flipped (spelled g leaves xs)
spelled-top_negated g leaves [] = refl
spelled-top_negated g leaves (x ∷ []) = λ j. value_of-negation g leaves x j ∷ []
spelled-top_negated g leaves (x ∷ y ∷ xs) = ap (λ (bs : List Bool). value_of g leaves x ∷ bs) (spelled-top_negated g leaves (y ∷ xs))

length-top_flipped : (bs : List Bool) → length (top_flipped bs) ≡ length bs
length-top_flipped [] = refl
length-top_flipped (b ∷ []) = refl
length-top_flipped (b ∷ c ∷ bs) = ap suc (length-top_flipped (c ∷ bs))

-- a number by its top bit, of worth t, and the same with that bit negated
abbrev IsFlipped : ℕ → ℕ → ℕ → Type 0
IsFlipped t a f = ((a < t) × (f ≡ a + t)) ⊎ ((t ≤ a) × (f + t ≡ a))

flipped : (bs : List Bool) (n : ℕ) → length bs ≡ suc n → IsFlipped (2 ^ n) (number_of bs) (number_of (top_flipped bs))
flipped [] n len = absurd (omega arith)
flipped (true ∷ []) n len = let n0 : n ≡ 0 = omega arith in rw n0 (inr (omega arith, refl))
flipped (false ∷ []) n len = let n0 : n ≡ 0 = omega arith in rw n0 (inl (omega arith, refl))
flipped (b ∷ c ∷ bs) zero len = absurd (omega arith)
flipped (b ∷ c ∷ bs) (suc n) len = by (flipped (c ∷ bs) n (omega arith))
  where
    k : ℕ
    k = number_of (c ∷ bs)

    f : ℕ
    f = number_of (top_flipped (c ∷ bs))

    by : IsFlipped (2 ^ n) k f → IsFlipped (2 ^ suc n) (bit b + 2 * k) (bit b + 2 * f)
    by (inl h) = let lt = h.0 in let e = h.1 in inl (omega (arith, pow-suc 2 n, bit-lt b), omega (arith, pow-suc 2 n))
    by (inr h) = let le = h.0 in let e = h.1 in inr (omega (arith, pow-suc 2 n), omega (arith, pow-suc 2 n))

module _ (w a b fa fb : ℕ) (some : 1 ≤ w) (la : a < 2 ^ w) (lb : b < 2 ^ w) where
  signed_order : IsFlipped (2 ^ (w - 1)) a fa → IsFlipped (2 ^ (w - 1)) b fb → nat_lt fa fb ≡ int_lt (signed_of w a) (signed_of w b)
  signed_order (inl p) (inl q) =
      let pa = p.0 in let ea = p.1 in let qb = q.0 in let eb = q.1 in
      same_less fa fb a b (λ h. omega arith) (λ h. omega arith) ∙ sym (λ j. int_lt (signed_low w a pa j) (signed_low w b qb j))
  signed_order (inl p) (inr q) =
      let pa = p.0 in let ea = p.1 in let qb = q.0 in let eb = q.1 in
      le-ltb fa fb (omega (arith, top_half w some)) ∙ sym (λ j. int_lt (signed_low w a pa j) (signed_high w b qb lb j))
  signed_order (inr p) (inl q) =
      let pa = p.0 in let ea = p.1 in let qb = q.0 in let eb = q.1 in
      lt-ltb fa fb (omega (arith, top_half w some)) ∙ sym (λ j. int_lt (signed_high w a pa la j) (signed_low w b qb j))
  signed_order (inr p) (inr q) =
      let pa = p.0 in let ea = p.1 in let qb = q.0 in let eb = q.1 in
      same_less fa fb (2 ^ w - 1 - b) (2 ^ w - 1 - a) (λ h. omega arith) (λ h. omega arith) ∙ sym (λ j. int_lt (signed_high w a pa la j) (signed_high w b qb lb j))

pub flipped_less : (xs ys : List Bool) (w : ℕ) → 1 ≤ w → length xs ≡ w → length ys ≡ w → not (folded borrow_bit true (zip (top_flipped xs) (top_flipped ys))) ≡ word_less w true (number_of xs) (number_of ys)
flipped_less xs ys w some ex ey =
    let top : w ≡ suc (w - 1) = omega arith in
    folded_less (top_flipped xs) (top_flipped ys) (length-top_flipped ys ∙ ey ∙ sym ex ∙ sym (length-top_flipped xs))
    ∙ signed_order w (number_of xs) (number_of ys) _ _ some (below xs ex) (below ys ey) (flipped xs (w - 1) (ex ∙ top)) (flipped ys (w - 1) (ey ∙ top))
  where
    below : (bs : List Bool) → length bs ≡ w → number_of bs < 2 ^ w
    below bs e = let same : 2 ^ length bs ≡ 2 ^ w = ap (λ (k : ℕ). 2 ^ k) e in omega (arith, number_of-lt bs)
