-- A word is read as the number that it spells, and a number's word is read again.
use Rattle.std.proofs.Common.{◌≡◌, ℕ, ◌+◌, ◌-◌, ◌*◌, ◌/◌, ◌%◌, ◌^◌, ◌<◌, ◌≤◌, Bool, true, false, not, cond, eqb, leb, List, [], ◌∷◌, ◌++◌, length, get_or, Option, Some, None, refl, sym, ap, subst, ◌∙◌, arith, decimal, ◌&&◌, ◌⊎◌, inl, inr}
use Rattle.std.specs.Char.{digit_value, is_ascii_digit}
use Rattle.std.specs.Str.Parse.{AllDigits, digits_value, digits_value_after}
use Rattle.std.proofs.lemmas.Bool.{leb-true, le-leb, eqb-false, ne_eqb, and_parts, and_from}
use Rattle.std.proofs.lemmas.Str.{digit_value_digit}
use Rattle.std.proofs.lemmas.Str.Parse.{digit_from_value}
use Rattle.std.proofs.lemmas.Int.Digits.{digits_value_push}
use Rattle.std.proofs.lemmas.Fmt.{decimal_is_IsNumeral_wide, decimal_by_steps_wide}
use Rattle.line_text.specs.Lines.{Lacks, IsWord}
use Rattle.line_text.specs.Number.{is_short, value_after, number_of}
use Rattle.line_text.proofs.Laws.{some_is}

-- ---- digits

record IsDigit (c : ℕ) : Type 0 where
  test : is_ascii_digit c ≡ true
  value : digit_value c ≡ c - 48
  low : 48 ≤ c
  high : c ≤ 57

digit_in : (c : ℕ) → 48 ≤ c → c ≤ 57 → IsDigit c
digit_in c low high =
    let v = digit_value_digit c (low, high) in
    record { test = and_from (leb 48 c) (leb c 57) (le-leb 48 c low) (le-leb c 57 high); value = omega arith; low = low; high = high }

digit_tested : (c : ℕ) → is_ascii_digit c ≡ true → IsDigit c
digit_tested c e =
    let p = and_parts (leb 48 c) (leb c 57) e in
    digit_in c (leb-true 48 c p.0) (leb-true c 57 p.1)

digit_valued : (c : ℕ) → digit_value c < 10 → IsDigit c
digit_valued c h = let r = digit_from_value c h in digit_in c r.0 r.1

chosen : {X : Type 0} (b : Bool) (x : Option X) (y : X) → cond b x None ≡ Some y → (b ≡ true) × (x ≡ Some y)
chosen true x y e = (refl, e)
chosen false x y e = absurd cc

value_is : (max m : ℕ) (ds : List ℕ) (n : ℕ) → value_after max m ds ≡ Some n → AllDigits 10 ds × (digits_value_after 10 m ds ≡ n) × (m ≤ max → n ≤ max)
value_is max m [] n e =
    let q : m ≡ n = some_is m n e in
    (tt, q, λ h. omega arith)
value_is max m (b ∷ bs) n e =
    let k : ℕ = m * 10 + (b - 48) in
    let c = chosen (is_ascii_digit b && leb k max) (value_after max k bs) n e in
    let p = and_parts (is_ascii_digit b) (leb k max) c.0 in
    let d = digit_tested b p.0 in
    let i = value_is max k bs n c.1 in
    let dl : digit_value b < 10 = omega (arith, d.value, d.high) in
    let v : digits_value_after 10 (m * 10 + digit_value b) bs ≡ n = ap (λ (x : ℕ). digits_value_after 10 (m * 10 + x) bs) d.value ∙ i.1 in
    ((dl, i.0), v, λ h. i.2 (leb-true k max p.1))

grows : (m : ℕ) (ds : List ℕ) → m ≤ digits_value_after 10 m ds
grows m [] = omega arith
grows m (b ∷ bs) = omega (arith, grows (m * 10 + digit_value b) bs)

value_again : (max m : ℕ) (ds : List ℕ) → AllDigits 10 ds → digits_value_after 10 m ds ≤ max → value_after max m ds ≡ Some (digits_value_after 10 m ds)
value_again max m [] h le = refl
value_again max m (b ∷ bs) h le =
    let d = digit_valued b h.0 in
    let k : ℕ = m * 10 + (b - 48) in
    let same : digits_value_after 10 (m * 10 + digit_value b) bs ≡ digits_value_after 10 k bs = ap (λ (x : ℕ). digits_value_after 10 (m * 10 + x) bs) d.value in
    let test : (is_ascii_digit b && leb k max) ≡ true = and_from (is_ascii_digit b) (leb k max) d.test (le-leb k max (omega (arith, grows k bs, same, le))) in
    let rest = value_again max k bs h.1 (omega (arith, same, le)) in
    ap (λ (t : Bool). cond t (value_after max k bs) None) test ∙ rest ∙ ap (λ (x : ℕ). Some x) (sym same)

-- ---- one word for each number

record Ends (ds : List ℕ) : Type 0 where
  front : List ℕ
  last : ℕ
  parts : ds ≡ front ++ last ∷ []

ends : (b : ℕ) (bs : List ℕ) → Ends (b ∷ bs)
ends b [] = record { front = []; last = b; parts = refl }
ends b (c ∷ bs) = let e = ends c bs in record { front = b ∷ e.front; last = e.last; parts = ap (λ (x : List ℕ). b ∷ x) e.parts }

digits_front : (xs : List ℕ) (c : ℕ) → AllDigits 10 (xs ++ c ∷ []) → AllDigits 10 xs × (digit_value c < 10)
digits_front [] c h = (tt, h.0)
digits_front (x ∷ xs) c h = let i = digits_front xs c h.1 in ((h.0, i.0), i.1)

short_front : (x : ℕ) (xs : List ℕ) (c : ℕ) → is_short ((x ∷ xs) ++ c ∷ []) ≡ true → is_short (x ∷ xs) ≡ true
short_front x [] c h = refl
short_front x (y ∷ ys) c h = h

not_true : (b : Bool) → not b ≡ true → b ≡ false
not_true true e = absurd cc
not_true false e = refl

-- what a word of digits with no leading zero is, if it spells n
abbrev IsOnly : ℕ → List ℕ → Type 0
IsOnly n text = (ds : List ℕ) → is_short ds ≡ true → AllDigits 10 ds → digits_value 10 ds ≡ n → ds ≡ text

large : (b c : ℕ) (bs : List ℕ) → is_short (b ∷ c ∷ bs) ≡ true → AllDigits 10 (b ∷ c ∷ bs) → 10 ≤ digits_value 10 (b ∷ c ∷ bs)
large b c bs s h =
    let d = digit_valued b h.0 in
    let ne : b ≡ 48 → ⊥ = eqb-false b 48 (not_true (eqb b 48) s) in
    omega (arith, ne, d.low, d.value, grows ((0 * 10 + digit_value b) * 10 + digit_value c) bs)

only_one : (n : ℕ) → n < 10 → IsOnly n ((48 + n) ∷ [])
only_one n lt [] s h v = absurd cc
only_one n lt (b ∷ []) s h v =
    let d = digit_valued b h.0 in
    let e : b ≡ 48 + n = omega (arith, v, d.value, d.low) in
    ap (λ (x : ℕ). x ∷ []) e
only_one n lt (b ∷ c ∷ bs) s h v = absurd (omega (arith, large b c bs s h, v))

only_more_by : (n : ℕ) (text : List ℕ) → 10 ≤ n → IsOnly (n / 10) text → (xs : List ℕ) (c : ℕ) → is_short (xs ++ c ∷ []) ≡ true → AllDigits 10 (xs ++ c ∷ []) → digits_value 10 (xs ++ c ∷ []) ≡ n → xs ++ c ∷ [] ≡ text ++ ((48 + n % 10) ∷ [])
only_more_by n text ge one [] c s h v = absurd (omega (arith, v, h.0))
only_more_by n text ge one (x ∷ xs) c s h v =
    let f = digits_front (x ∷ xs) c h in
    let d = digit_valued c f.1 in
    let q : ℕ = digits_value 10 (x ∷ xs) in
    let e : q * 10 + digit_value c ≡ n = sym (digits_value_push 10 (x ∷ xs) c) ∙ v in
    let quotient : q ≡ n / 10 = omega (arith, e, f.1) in
    let remainder : c ≡ 48 + n % 10 = omega (arith, e, f.1, d.value, d.low) in
    let front : x ∷ xs ≡ text = one (x ∷ xs) (short_front x xs c s) f.0 quotient in
    ap (λ (y : List ℕ). y ++ c ∷ []) front ∙ ap (λ (k : ℕ). text ++ k ∷ []) remainder

only_more : (n : ℕ) (text : List ℕ) → 10 ≤ n → IsOnly (n / 10) text → IsOnly n (text ++ ((48 + n % 10) ∷ []))
only_more n text ge one [] s h v = absurd cc
only_more n text ge one (b ∷ bs) s h v =
    let e = ends b bs in
    let p = e.parts in
    p ∙ only_more_by n text ge one e.front e.last (subst (λ (x : List ℕ). is_short x ≡ true) p s) (subst (λ (x : List ℕ). AllDigits 10 x) p h) (subst (λ (x : List ℕ). digits_value 10 x ≡ n) p v)

only : (n : ℕ) → n < 10 ^ 64 → IsOnly n (decimal n)
only n lt = decimal_by_steps_wide IsOnly only_one only_more n lt

-- the word of a number is short
record IsShort (n : ℕ) (text : List ℕ) : Type 0 where
  test : is_short text ≡ true
  some : 0 < length text
  first : 0 < n → get_or text 0 0 ≡ 48 → ⊥

short_push : (xs : List ℕ) (c : ℕ) → is_short xs ≡ true → (get_or xs 0 0 ≡ 48 → ⊥) → is_short (xs ++ c ∷ []) ≡ true
short_push [] c s h = absurd cc
short_push (x ∷ []) c s h = ap not (ne_eqb x 48 h)
short_push (x ∷ y ∷ ys) c s h = s

first_push : (xs : List ℕ) (c : ℕ) → 0 < length xs → get_or (xs ++ c ∷ []) 0 0 ≡ get_or xs 0 0
first_push [] c h = absurd (omega arith)
first_push (x ∷ xs) c h = refl

length_pushed : (xs : List ℕ) (c : ℕ) → 0 < length (xs ++ c ∷ [])
length_pushed [] c = omega arith
length_pushed (x ∷ xs) c = omega arith

short : (n : ℕ) → n < 10 ^ 64 → IsShort n (decimal n)
short n lt = decimal_by_steps_wide IsShort (λ n lt. record { test = refl; some = omega arith; first = λ p e. absurd (omega arith) })
    (λ n ds ge i.
    let first : get_or ds 0 0 ≡ 48 → ⊥ = i.first (omega arith) in
    record { test = short_push ds (48 + n % 10) i.test first; some = length_pushed ds (48 + n % 10); first = λ p e. first (sym (first_push ds (48 + n % 10) i.some) ∙ e) })
    n lt

-- ---- the laws

found : (max : ℕ) (ds : List ℕ) (n : ℕ) → number_of max ds ≡ Some n → (is_short ds ≡ true) × (value_after max 0 ds ≡ Some n)
unfolding number_of
found max ds n e = chosen (is_short ds) (value_after max 0 ds) n e

pub number_takes : (max : ℕ) (ds : List ℕ) (n : ℕ) → max < 10 ^ 64 → number_of max ds ≡ Some n → (ds ≡ decimal n) × (n ≤ max)
number_takes max ds n lt e =
    let f = found max ds n e in
    let v = value_is max 0 ds n f.1 in
    let small : n ≤ max = v.2 (omega arith) in
    (only n (omega arith) ds f.0 v.0 v.1, small)

pub number_again : (max n : ℕ) → max < 10 ^ 64 → n ≤ max → number_of max (decimal n) ≡ Some n
unfolding number_of
number_again max n lt le =
    let w = decimal_is_IsNumeral_wide n (omega arith) in
    let v : value_after max 0 (decimal n) ≡ Some (digits_value 10 (decimal n)) = value_again max 0 (decimal n) w.0.1 (omega (arith, w.1)) in
    ap (λ (t : Bool). cond t (value_after max 0 (decimal n)) None) (short n (omega arith)).test ∙ v ∙ ap (λ (x : ℕ). Some x) w.1

digits_lack : (byte : ℕ) → ((d : ℕ) → 48 ≤ d → d ≤ 57 → d ≡ byte → ⊥) → (ds : List ℕ) → AllDigits 10 ds → Lacks byte ds
digits_lack byte apart [] h = tt
digits_lack byte apart (d ∷ ds) h = let i = digit_valued d h.0 in (ne_eqb d byte (apart d i.low i.high), digits_lack byte apart ds h.1)

pub number_lacks : (byte : ℕ) → (byte < 48) ⊎ (57 < byte) → (n : ℕ) → n < 10 ^ 64 → Lacks byte (decimal n)
number_lacks byte (inl below) n lt = digits_lack byte (λ d low high e. absurd (omega (arith, low, e, below))) (decimal n) (decimal_is_IsNumeral_wide n lt).0.1
number_lacks byte (inr above) n lt = digits_lack byte (λ d low high e. absurd (omega (arith, high, e, above))) (decimal n) (decimal_is_IsNumeral_wide n lt).0.1

pub number_word : (n : ℕ) → n < 10 ^ 64 → IsWord (decimal n)
number_word n lt = (number_lacks 32 (inl (omega arith)) n lt, number_lacks 10 (inl (omega arith)) n lt)
