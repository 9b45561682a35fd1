-- The longest token is found.
use Rattle.std.proofs.Common.{◌≡◌, ℕ, zero, suc, ◌+◌, ◌≤◌, ◌<◌, ◌==◌, max, Bool, true, false, cond, ◌||◌, ◌&&◌, if◌then◌else◌, ◌⊎◌, inl, inr, List, [], ◌∷◌, ◌++◌, length, take, drop, is_some, Some, refl, sym, ◌∙◌, ap, subst, arith, append_assoc, length-append}
use Rattle.std.specs.List.{list_all, prefix_len, starts_with}
use Rattle.std.specs.Str.{bytes_eq}
use Rattle.std.proofs.lemmas.Bool.{cases_lt, eqb-false}
use Rattle.std.proofs.lemmas.Bool.Decides.{Decides-eqb, eqb_tells}
use Rattle.std.proofs.lemmas.List.{take-append-drop, take_at, drop_at, length-take-le, nil_from_length}
use Rattle.std.proofs.lemmas.List.Sums.{prefix_len-le-length}
use Rattle.std.proofs.lemmas.List.Folds.{length-prefix_len}
use Rattle.std.proofs.lemmas.Slice.Eq.{bytes_eq-Decides, starts_is}
use Rattle.std.proofs.Math.Nat.{le-max_left, le-max_right, max-eq_left, max-eq_right}
use Rattle.std.proofs.Math.Seq.{take-append-add}
use Rattle.vlog_tokens.specs.declared.word.Word.{Word}
use Rattle.vlog_tokens.specs.Bytes.{begins_name, goes_on, is_decimal, radix_of, is_digit_of}
use Rattle.vlog_tokens.specs.Numbers.{or_underscore, is_digits, digits_length}
use Rattle.vlog_tokens.specs.Words.{lookup, mark, marks}
use Rattle.vlog_tokens.specs.Tokens.{is_size, IsToken, name, system, sign, decimal, based, IsLongest, NoToken, name_length, one_and, system_length, entry_length, longest_of, mark_length, two_and, digits_behind, base_length, tail_length, number_length, token_length}
use Rattle.vlog_tokens.proofs.Tests.{differ, split_and, run_front, run_on}

-- ---- numbers

positive : (n : ℕ) → (n ≡ 0 → ⊥) → 0 < n
positive zero h = absurd (h refl)
positive (suc n) h = omega arith

not_none : (n : ℕ) → 0 < n → (n == 0) ≡ false
not_none n h = elim (eqb_tells n 0) [ inl k ↦ (let e = k.1 in absurd (omega (arith, e))) | inr k ↦ k.0 ]

max_is : (m n : ℕ) → (max m n ≡ m) ⊎ (max m n ≡ n)
max_is m n = elim (cases_lt m n) [
  | inl l ↦ inr (max-eq_right (omega (arith, l)))
  | inr l ↦ inl (max-eq_left l)
]

-- ---- each length is that of a token, or 0

pub record IsTaken (text : List ℕ) (n : ℕ) : Type 0 where
  pub token : 0 < n → IsToken (take n text)
  pub within : n ≤ length text

none_taken : (text : List ℕ) → IsTaken text 0
none_taken text = record { token = λ h. absurd (omega (arith, h)); within = omega arith }

max_taken : (text : List ℕ) (m n : ℕ) → IsTaken text m → IsTaken text n → IsTaken text (max m n)
max_taken text m n M N = elim (max_is m n) [ inl e ↦ subst (λ z. IsTaken text z) (sym e) M | inr e ↦ subst (λ z. IsTaken text z) (sym e) N ]

name_taken : (text : List ℕ) → IsTaken text (name_length text)
name_taken [] = none_taken []
name_taken (b ∷ bs) = (elim (begins_name b) as (λ v. begins_name b ≡ v → IsTaken (b ∷ bs) (if v then suc (prefix_len goes_on bs) else 0)) [
  | true ↦ λ e. record { token = λ h. name b (take (prefix_len goes_on bs) bs) e (run_front goes_on bs); within = let l = prefix_len-le-length goes_on bs in omega (arith, l) }
  | false ↦ λ e. none_taken (b ∷ bs)
]) refl

one_taken : (b : ℕ) (bs : List ℕ) → b ≡ 36 → IsTaken (b ∷ bs) (one_and (prefix_len goes_on bs))
one_taken b bs first = (elim (prefix_len goes_on bs == 0) as (λ v. (prefix_len goes_on bs == 0) ≡ v → IsTaken (b ∷ bs) (if v then 0 else suc (prefix_len goes_on bs))) [
  | true ↦ λ e. none_taken (b ∷ bs)
  | false ↦ λ e. record { token = λ h. token (eqb-false (prefix_len goes_on bs) 0 e); within = let l = prefix_len-le-length goes_on bs in omega (arith, l) }
]) refl
  where
    token : (prefix_len goes_on bs ≡ 0 → ⊥) → IsToken (b ∷ take (prefix_len goes_on bs) bs)
    token h =
        let long = length-prefix_len goes_on bs in
        let some = positive (prefix_len goes_on bs) h in
        subst (λ z. IsToken (z ∷ take (prefix_len goes_on bs) bs)) (sym first) (system (take (prefix_len goes_on bs) bs) (omega (arith, long, some)) (run_front goes_on bs))

system_taken : (text : List ℕ) → IsTaken text (system_length text)
system_taken [] = none_taken []
system_taken (b ∷ bs) = elim (eqb_tells b 36) [
  | inl e ↦ subst (λ v. IsTaken (b ∷ bs) (if v then one_and (prefix_len goes_on bs) else 0)) (sym e.0) (one_taken b bs e.1)
  | inr e ↦ subst (λ v. IsTaken (b ∷ bs) (if v then one_and (prefix_len goes_on bs) else 0)) (sym e.0) (none_taken (b ∷ bs))
]

entry_taken : (entry text : List ℕ) → is_some (mark entry) ≡ true → IsTaken text (entry_length entry text)
entry_taken entry text m = (elim (starts_with ◌==◌ text entry) as (λ v. starts_with ◌==◌ text entry ≡ v → IsTaken text (if v then length entry else 0)) [
  | true ↦ λ e. begun ((starts_is Decides-eqb text entry (starts_with ◌==◌ text entry) refl).0 e)
  | false ↦ λ e. none_taken text
]) refl
  where
    begun : text ≡ entry ++ drop (length entry) text → IsTaken text (length entry)
    begun e =
        let front : take (length entry) text ≡ entry = ap (λ (z : List ℕ). take (length entry) z) e ∙ take_at entry (drop (length entry) text) (length entry) refl in
        let long : length text ≡ length (entry ++ drop (length entry) text) = ap (λ (z : List ℕ). length z) e in
        let parts = length-append entry (drop (length entry) text) in
        record { token = λ h. subst (λ z. IsToken z) (sym front) (sign entry m); within = omega (arith, long, parts) }

longest_taken : (entries : List (List ℕ × Word)) (n : ℕ) (text : List ℕ) → list_all (λ e. is_some (mark e.0)) entries ≡ true → IsTaken text n → IsTaken text (longest_of n entries text)
longest_taken [] n text h N = N
longest_taken (e ∷ es) n text h N =
    let both = split_and (is_some (mark e.0)) (list_all (λ e. is_some (mark e.0)) es) h in
    longest_taken es (max n (entry_length e.0 text)) text both.1 (max_taken text n (entry_length e.0 text) N (entry_taken e.0 text both.0))

all_marks : list_all (λ e. is_some (mark e.0)) marks ≡ true
unfolding mark marks
all_marks = refl

mark_taken : (text : List ℕ) → IsTaken text (mark_length text)
mark_taken text = longest_taken marks 0 text all_marks (none_taken text)

digits_taken : (p : ℕ → Bool) (text : List ℕ) → 0 < digits_length p text → is_digits p (take (digits_length p text) text) ≡ true
digits_taken p [] h = absurd (omega (arith, h))
digits_taken p (b ∷ bs) h = (elim (p b) as (λ v. p b ≡ v → (let n : ℕ = if v then suc (prefix_len (or_underscore p) bs) else 0 in 0 < n → is_digits p (take n (b ∷ bs)) ≡ true)) [
  | true ↦ λ e l. rw e (run_front (or_underscore p) bs)
  | false ↦ λ e l. absurd (omega (arith, l))
]) refl h

digits_within : (p : ℕ → Bool) (text : List ℕ) → digits_length p text ≤ length text
digits_within p [] = omega arith
digits_within p (b ∷ bs) =
    let l = prefix_len-le-length (or_underscore p) bs in
    elim (p b) as (λ v. (if v then suc (prefix_len (or_underscore p) bs) else 0) ≤ suc (length bs)) [ true ↦ omega (arith, l) | false ↦ omega arith ]

size_front : (text : List ℕ) → is_size (take (digits_length is_decimal text) text) ≡ true
size_front [] = refl
size_front (b ∷ bs) = (elim (is_decimal b) as (λ v. is_decimal b ≡ v → is_size (take (if v then suc (prefix_len (or_underscore is_decimal) bs) else 0) (b ∷ bs)) ≡ true) [
  | true ↦ λ e. rw e (run_front (or_underscore is_decimal) bs)
  | false ↦ λ e. refl
]) refl

-- what stands behind a size makes a number with it, or has no length
pub record IsTail (size back : List ℕ) (n : ℕ) : Type 0 where
  pub token : 0 < n → IsToken (size ++ take n back)
  pub within : n ≤ length back

no_tail : (size back : List ℕ) → IsTail size back 0
no_tail size back = record { token = λ h. absurd (omega (arith, h)); within = omega arith }

digits_tail : (size : List ℕ) (letter : ℕ) (digits : List ℕ) → is_size size ≡ true → IsTail size (39 ∷ letter ∷ digits) (digits_behind (radix_of letter) digits)
digits_tail size letter digits s = (elim (radix_of letter == 0) as (λ v. (radix_of letter == 0) ≡ v → IsTail size (39 ∷ letter ∷ digits) (if v then 0 else two_and (digits_length (is_digit_of (radix_of letter)) digits))) [
  | true ↦ λ e. no_tail size (39 ∷ letter ∷ digits)
  | false ↦ λ e. (elim (digits_length (is_digit_of (radix_of letter)) digits == 0) as (λ v. (digits_length (is_digit_of (radix_of letter)) digits == 0) ≡ v
      → IsTail size (39 ∷ letter ∷ digits) (if v then 0 else suc (suc (digits_length (is_digit_of (radix_of letter)) digits)))) [
        | true ↦ λ k. no_tail size (39 ∷ letter ∷ digits)
        | false ↦ λ k. record {
          token = λ h. based size letter (take (digits_length (is_digit_of (radix_of letter)) digits) digits) s e (digits_taken (is_digit_of (radix_of letter)) digits (positive (digits_length (is_digit_of (radix_of letter)) digits) (eqb-false (digits_length (is_digit_of (radix_of letter)) digits) 0 k)));
          within = let l = digits_within (is_digit_of (radix_of letter)) digits in omega (arith, l);
        }
      ]) refl
]) refl

tail_is : (size back : List ℕ) → is_size size ≡ true → IsTail size back (tail_length back)
tail_is size [] s = no_tail size []
tail_is size (q ∷ []) s = elim (q == 39) as (λ v. IsTail size (q ∷ []) (if v then 0 else 0)) [ true ↦ no_tail size (q ∷ []) | false ↦ no_tail size (q ∷ []) ]
tail_is size (q ∷ letter ∷ digits) s = elim (eqb_tells q 39) [
  | inl e ↦ subst (λ v. IsTail size (q ∷ letter ∷ digits) (if v then digits_behind (radix_of letter) digits else 0)) (sym e.0)
      (subst (λ z. IsTail size (z ∷ letter ∷ digits) (digits_behind (radix_of letter) digits)) (sym e.1) (digits_tail size letter digits s))
  | inr e ↦ subst (λ v. IsTail size (q ∷ letter ∷ digits) (if v then digits_behind (radix_of letter) digits else 0)) (sym e.0) (no_tail size (q ∷ letter ∷ digits))
]

take_parts : (k m : ℕ) (xs : List ℕ) → k ≤ length xs → take (k + m) xs ≡ take k xs ++ take m (drop k xs)
take_parts k m xs h =
    let long = length-take-le k xs h in
    ap (λ (z : List ℕ). take (k + m) z) (sym (take-append-drop k xs))
    ∙ ap (λ (n : ℕ). take (n + m) (take k xs ++ drop k xs)) (sym long)
    ∙ take-append-add (take k xs) (drop k xs) m

pub record IsNumberTaken (text : List ℕ) (k m : ℕ) : Type 0 where
  pub size : is_size (take k text) ≡ true
  pub digits : 0 < k → is_digits is_decimal (take k text) ≡ true
  pub within : k ≤ length text
  pub tail : IsTail (take k text) (drop k text) m

number_parts : (text : List ℕ) (k m : ℕ) → IsNumberTaken text k m → length (drop k text) + k ≡ length text → IsTaken text (k + m)
number_parts text k m N long = record { token = token (cases_lt 0 m); within = let w = N.tail.within in omega (arith, w, long) }
  where
    token : (0 < m) ⊎ (m ≤ 0) → 0 < k + m → IsToken (take (k + m) text)
    token (inl some) h = subst (λ z. IsToken z) (sym (take_parts k m text N.within)) (N.tail.token some)
    token (inr none) h = let same : k + m ≡ k = omega (arith, none) in subst (λ z. IsToken (take z text)) (sym same) (decimal (take k text) (N.digits (omega (arith, h, none))))

number_taken : (text : List ℕ) → IsTaken text (number_length text)
number_taken text =
    let k : ℕ = digits_length is_decimal text in
    let within : digits_length is_decimal text ≤ length text = digits_within is_decimal text in
    number_parts text (digits_length is_decimal text) (tail_length (drop (digits_length is_decimal text) text))
    (record { size = size_front text; digits = digits_taken is_decimal text; within = within; tail = tail_is (take (digits_length is_decimal text) text) (drop (digits_length is_decimal text) text) (size_front text) })
    (parts (digits_length is_decimal text) within)
  where
    parts : (k : ℕ) → k ≤ length text → length (drop k text) + k ≡ length text
    parts k h =
        let whole : length (take k text ++ drop k text) ≡ length text = ap (λ (z : List ℕ). length z) (take-append-drop k text) in
        let both = length-append (take k text) (drop k text) in
        let front = length-take-le k text h in
        omega (arith, whole, both, front)

pub token_taken : (text : List ℕ) → IsTaken text (token_length text)
token_taken text = max_taken text (max (name_length text) (system_length text)) (max (mark_length text) (number_length text))
    (max_taken text (name_length text) (system_length text) (name_taken text) (system_taken text))
    (max_taken text (mark_length text) (number_length text) (mark_taken text) (number_taken text))

-- ---- no token at the front is longer

name_fits : (b : ℕ) (bs rest : List ℕ) → begins_name b ≡ true → list_all goes_on bs ≡ true → suc (length bs) ≤ name_length (b ∷ (bs ++ rest))
name_fits b bs rest e on =
    let here : name_length (b ∷ (bs ++ rest)) ≡ suc (prefix_len goes_on (bs ++ rest)) = ap (λ v. if v then suc (prefix_len goes_on (bs ++ rest)) else 0) e in
    let run = run_on goes_on bs rest on in
    omega (arith, here, run)

system_fits : (bs rest : List ℕ) → 0 < length bs → list_all goes_on bs ≡ true → suc (length bs) ≤ system_length (36 ∷ (bs ++ rest))
system_fits bs rest some on =
    let run = run_on goes_on bs rest on in
    let more : (prefix_len goes_on (bs ++ rest) == 0) ≡ false = not_none (prefix_len goes_on (bs ++ rest)) (omega (arith, run, some)) in
    let here : one_and (prefix_len goes_on (bs ++ rest)) ≡ suc (prefix_len goes_on (bs ++ rest)) = ap (λ v. if v then 0 else suc (prefix_len goes_on (bs ++ rest))) more in
    let whole : system_length (36 ∷ (bs ++ rest)) ≡ one_and (prefix_len goes_on (bs ++ rest)) = refl in
    omega (arith, here, run, whole)

entry_fits : (entry rest : List ℕ) → entry_length entry (entry ++ rest) ≡ length entry
entry_fits entry rest = ap (λ v. if v then length entry else 0) ((starts_is Decides-eqb (entry ++ rest) entry (starts_with ◌==◌ (entry ++ rest) entry) refl).1 rest refl)

longest_grows : (n : ℕ) (entries : List (List ℕ × Word)) (text : List ℕ) → n ≤ longest_of n entries text
longest_grows n [] text = omega arith
longest_grows n (e ∷ es) text =
    let more = longest_grows (max n (entry_length e.0 text)) es text in
    let left = le-max_left n (entry_length e.0 text) in
    omega (arith, more, left)

longest_fits : (entries : List (List ℕ × Word)) (n : ℕ) (front rest : List ℕ) → is_some (lookup entries front) ≡ true → length front ≤ longest_of n entries (front ++ rest)
longest_fits [] n front rest h = absurd (let no : false ≡ true = h in cc)
longest_fits (e ∷ es) n front rest h = (elim (bytes_eq e.0 front) as (λ v. bytes_eq e.0 front ≡ v → is_some (if v then Some e.1 else lookup es front) ≡ true → length front ≤ longest_of (max n (entry_length e.0 (front ++ rest))) es (front ++ rest)) [
  | true ↦ λ t _. found ((bytes_eq-Decides e.0 front).0 t)
  | false ↦ λ _ k. longest_fits es (max n (entry_length e.0 (front ++ rest))) front rest k
]) refl h
  where
    found : e.0 ≡ front → length front ≤ longest_of (max n (entry_length e.0 (front ++ rest))) es (front ++ rest)
    found same =
        let here : entry_length e.0 (front ++ rest) ≡ length front = subst (λ z. entry_length z (front ++ rest) ≡ length front) (sym same) (entry_fits front rest) in
        let grown = longest_grows (max n (entry_length e.0 (front ++ rest))) es (front ++ rest) in
        let right = le-max_right n (entry_length e.0 (front ++ rest)) in
        omega (arith, here, grown, right)

mark_fits : (front rest : List ℕ) → is_some (mark front) ≡ true → length front ≤ mark_length (front ++ rest)
unfolding mark
mark_fits front rest h = longest_fits marks 0 front rest h

digits_fit : (p : ℕ → Bool) (digits rest : List ℕ) → is_digits p digits ≡ true → length digits ≤ digits_length p (digits ++ rest)
digits_fit p [] rest e = omega arith
digits_fit p (b ∷ bs) rest e =
    let both = split_and (p b) (list_all (or_underscore p) bs) e in
    let here : digits_length p (b ∷ (bs ++ rest)) ≡ suc (prefix_len (or_underscore p) (bs ++ rest)) = ap (λ v. if v then suc (prefix_len (or_underscore p) (bs ++ rest)) else 0) both.0 in
    let run = run_on (or_underscore p) bs rest both.1 in
    omega (arith, here, run)

digits_some : (p : ℕ → Bool) (digits : List ℕ) → is_digits p digits ≡ true → 0 < length digits
digits_some p [] e = absurd (differ false e refl)
digits_some p (b ∷ bs) e = omega arith

size_stops : (size rest : List ℕ) → is_size size ≡ true → digits_length is_decimal (size ++ 39 ∷ rest) ≡ length size
size_stops [] rest e = refl
size_stops (b ∷ bs) rest e =
    let both = split_and (is_decimal b) (list_all (or_underscore is_decimal) bs) e in
    let here : digits_length is_decimal (b ∷ (bs ++ 39 ∷ rest)) ≡ suc (prefix_len (or_underscore is_decimal) (bs ++ 39 ∷ rest)) = ap (λ v. if v then suc (prefix_len (or_underscore is_decimal) (bs ++ 39 ∷ rest)) else 0) both.0 in
    let run = run_on (or_underscore is_decimal) bs (39 ∷ rest) both.1 in
    let stop : prefix_len (or_underscore is_decimal) (39 ∷ rest) ≡ 0 = refl in
    omega (arith, here, run, stop)

behind_fits : (radix : ℕ) (digits rest : List ℕ) → (radix == 0) ≡ false → is_digits (is_digit_of radix) digits ≡ true → 2 + length digits ≤ digits_behind radix (digits ++ rest)
behind_fits radix digits rest some e =
    let fit = digits_fit (is_digit_of radix) digits rest e in
    let long = digits_some (is_digit_of radix) digits e in
    let more : (digits_length (is_digit_of radix) (digits ++ rest) == 0) ≡ false = not_none (digits_length (is_digit_of radix) (digits ++ rest)) (omega (arith, fit, long)) in
    let two : two_and (digits_length (is_digit_of radix) (digits ++ rest)) ≡ suc (suc (digits_length (is_digit_of radix) (digits ++ rest))) = ap (λ v. if v then 0 else suc (suc (digits_length (is_digit_of radix) (digits ++ rest)))) more in
    let here : digits_behind radix (digits ++ rest) ≡ two_and (digits_length (is_digit_of radix) (digits ++ rest)) = ap (λ v. if v then 0 else two_and (digits_length (is_digit_of radix) (digits ++ rest))) some in
    omega (arith, fit, two, here)

number_at : (text size : List ℕ) (back : List ℕ) (k : ℕ) → text ≡ size ++ back → k ≡ length size → k + tail_length (drop k text) ≡ length size + tail_length back
number_at text size back k e s =
    ap (λ (z : ℕ). z + tail_length (drop z text)) s
    ∙ ap (λ (z : List ℕ). length size + tail_length (drop (length size) z)) e
    ∙ ap (λ (z : List ℕ). length size + tail_length z) (drop_at size back (length size) refl)

based_fits : (size : List ℕ) (letter : ℕ) (digits rest : List ℕ) → is_size size ≡ true → (radix_of letter == 0) ≡ false → is_digits (is_digit_of (radix_of letter)) digits ≡ true
    → length (size ++ 39 ∷ letter ∷ digits) ≤ number_length ((size ++ 39 ∷ letter ∷ digits) ++ rest)
based_fits size letter digits rest s some e =
    let whole : (size ++ 39 ∷ letter ∷ digits) ++ rest ≡ size ++ 39 ∷ letter ∷ (digits ++ rest) = append_assoc size (39 ∷ letter ∷ digits) rest in
    let stop : digits_length is_decimal ((size ++ 39 ∷ letter ∷ digits) ++ rest) ≡ length size = ap (λ (z : List ℕ). digits_length is_decimal z) whole ∙ size_stops size (letter ∷ (digits ++ rest)) s in
    let at = number_at ((size ++ 39 ∷ letter ∷ digits) ++ rest) size (39 ∷ letter ∷ (digits ++ rest)) (digits_length is_decimal ((size ++ 39 ∷ letter ∷ digits) ++ rest)) whole stop in
    let tail : tail_length (39 ∷ letter ∷ (digits ++ rest)) ≡ digits_behind (radix_of letter) (digits ++ rest) = refl in
    let fit = behind_fits (radix_of letter) digits rest some e in
    let long = length-append size (39 ∷ letter ∷ digits) in
    sums (length size) (length digits) (length (size ++ 39 ∷ letter ∷ digits)) (number_length ((size ++ 39 ∷ letter ∷ digits) ++ rest)) (tail_length (39 ∷ letter ∷ (digits ++ rest))) (digits_behind (radix_of letter) (digits ++ rest)) at tail fit long
  where
    sums : (s d n k t b : ℕ) → k ≡ s + t → t ≡ b → 2 + d ≤ b → n ≡ s + suc (suc d) → n ≤ k
    sums s d n k t b e f g h = omega arith

decimal_fits : (text rest : List ℕ) → is_digits is_decimal text ≡ true → length text ≤ number_length (text ++ rest)
decimal_fits text rest e = let fit = digits_fit is_decimal text rest e in omega (arith, fit)

-- the greatest of four numbers
below_first : (n a b c d : ℕ) → n ≤ a → n ≤ max (max a b) (max c d)
below_first n a b c d h = let l = le-max_left a b in let m = le-max_left (max a b) (max c d) in omega (arith, l, m)

below_second : (n a b c d : ℕ) → n ≤ b → n ≤ max (max a b) (max c d)
below_second n a b c d h = let l = le-max_right a b in let m = le-max_left (max a b) (max c d) in omega (arith, l, m)

below_third : (n a b c d : ℕ) → n ≤ c → n ≤ max (max a b) (max c d)
below_third n a b c d h = let l = le-max_left c d in let m = le-max_right (max a b) (max c d) in omega (arith, l, m)

below_fourth : (n a b c d : ℕ) → n ≤ d → n ≤ max (max a b) (max c d)
below_fourth n a b c d h = let l = le-max_right c d in let m = le-max_right (max a b) (max c d) in omega (arith, l, m)

pub token_fits : (front : List ℕ) → IsToken front → (rest : List ℕ) → length front ≤ token_length (front ++ rest)
token_fits front (name b bs e on) rest = below_first (suc (length bs)) (name_length (b ∷ (bs ++ rest))) (system_length (b ∷ (bs ++ rest))) (mark_length (b ∷ (bs ++ rest))) (number_length (b ∷ (bs ++ rest))) (name_fits b bs rest e on)
token_fits front (system bs some on) rest = below_second (suc (length bs)) (name_length (36 ∷ (bs ++ rest))) (system_length (36 ∷ (bs ++ rest))) (mark_length (36 ∷ (bs ++ rest))) (number_length (36 ∷ (bs ++ rest))) (system_fits bs rest some on)
token_fits front (sign text m) rest = below_third (length text) (name_length (text ++ rest)) (system_length (text ++ rest)) (mark_length (text ++ rest)) (number_length (text ++ rest)) (mark_fits text rest m)
token_fits front (decimal text e) rest = below_fourth (length text) (name_length (text ++ rest)) (system_length (text ++ rest)) (mark_length (text ++ rest)) (number_length (text ++ rest)) (decimal_fits text rest e)
token_fits front (based size letter digits s some e) rest =
    let text : List ℕ = (size ++ 39 ∷ letter ∷ digits) ++ rest in
    below_fourth (length (size ++ 39 ∷ letter ∷ digits)) (name_length text) (system_length text) (mark_length text) (number_length text) (based_fits size letter digits rest s some e)

-- ---- the longest token

no_mark : is_some (mark []) ≡ true → ⊥
unfolding mark marks
no_mark h = differ false h refl

pub token_some : (text : List ℕ) → IsToken text → 0 < length text
token_some text (name b bs e on) = omega arith
token_some text (system bs some on) = omega arith
token_some text (sign t m) = long t m
  where
    long : (t : List ℕ) → is_some (mark t) ≡ true → 0 < length t
    long [] m = absurd (no_mark m)
    long (b ∷ bs) m = omega arith
token_some text (decimal t e) = digits_some is_decimal t e
token_some text (based size letter digits s some e) = let long = length-append size (39 ∷ letter ∷ digits) in omega (arith, long)

fits_at : (text front rest : List ℕ) → text ≡ front ++ rest → IsToken front → length front ≤ token_length text
fits_at text front rest e t = subst (λ z. length front ≤ token_length z) (sym e) (token_fits front t rest)

longest_at : (text : List ℕ) (n : ℕ) → n ≤ length text → ((front rest : List ℕ) → text ≡ front ++ rest → IsToken front → length front ≤ n)
    → (more behind : List ℕ) → drop n text ≡ more ++ behind → IsToken (take n text ++ more) → more ≡ []
longest_at text n within fits more behind e t =
    let whole : text ≡ (take n text ++ more) ++ behind = sym (take-append-drop n text) ∙ ap (λ (z : List ℕ). take n text ++ z) e ∙ sym (append_assoc (take n text) more behind) in
    let fit = fits (take n text ++ more) behind whole t in
    let long = length-append (take n text) more in
    let front = length-take-le n text within in
    nil_from_length more (omega (arith, fit, long, front))

pub token_longest : (text : List ℕ) → 0 < token_length text → IsLongest (take (token_length text) text) (drop (token_length text) text)
token_longest text some = record {
  token = (token_taken text).token some;
  longest = longest_at text (token_length text) (token_taken text).within (fits_at text);
}

pub token_none : (text : List ℕ) → token_length text ≡ 0 → NoToken text
token_none text e taken behind whole t =
    let fit = fits_at text taken behind whole t in
    let some = token_some taken t in
    impossible (length taken) (token_length text) fit some e
  where
    impossible : (n k : ℕ) → n ≤ k → 0 < n → k ≡ 0 → ⊥
    impossible n k h l e = absurd (omega arith)
