-- Tokens have no blanks and no backquotes.
use Rattle.std.proofs.Common.{◌≡◌, ℕ, ◌==◌, nat_lt, Bool, true, false, not, ◌&&◌, ◌||◌, if◌then◌else◌, inl, inr, List, [], ◌∷◌, ◌++◌, is_some, Some, refl, sym, ◌∙◌, ap, subst}
use Rattle.std.specs.List.{list_all}
use Rattle.std.specs.Str.{bytes_eq}
use Rattle.std.proofs.lemmas.Bool.Decides.{eqb_tells}
use Rattle.std.proofs.lemmas.Slice.Eq.{bytes_eq-Decides}
use Rattle.vlog_tokens.specs.declared.word.Word.{Word}
use Rattle.vlog_tokens.specs.Bytes.{is_blank, begins_name, goes_on, is_decimal, radix_of, is_digit_of}
use Rattle.vlog_tokens.specs.Numbers.{or_underscore, is_digits}
use Rattle.vlog_tokens.specs.Words.{lookup, mark, marks}
use Rattle.vlog_tokens.specs.Tokens.{is_size, IsToken, name, system, sign, decimal, based}
use Rattle.vlog_tokens.proofs.Tests.{differ, split_and}

-- ---- tests

pub join_and : (a b : Bool) → a ≡ true → b ≡ true → (a && b) ≡ true
join_and a b e f = ap (λ v. v && b) e ∙ f

pub all_mono : (p q : ℕ → Bool) → ((b : ℕ) → p b ≡ true → q b ≡ true) → (bs : List ℕ) → list_all p bs ≡ true → list_all q bs ≡ true
all_mono p q h [] e = refl
all_mono p q h (b ∷ bs) e =
    let both = split_and (p b) (list_all p bs) e in
    join_and (q b) (list_all q bs) (h b both.0) (all_mono p q h bs both.1)

pub all_append : (p : ℕ → Bool) (xs ys : List ℕ) → list_all p xs ≡ true → list_all p ys ≡ true → list_all p (xs ++ ys) ≡ true
all_append p [] ys e f = f
all_append p (x ∷ xs) ys e f =
    let both = split_and (p x) (list_all p xs) e in
    join_and (p x) (list_all p (xs ++ ys)) both.0 (all_append p xs ys both.1 f)

pub all_back : (p : ℕ → Bool) (xs ys : List ℕ) → list_all p (xs ++ ys) ≡ true → list_all p ys ≡ true
all_back p [] ys e = e
all_back p (x ∷ xs) ys e = all_back p xs ys (split_and (p x) (list_all p (xs ++ ys)) e).1

pub apart : (p : ℕ → Bool) (n b : ℕ) → p n ≡ false → p b ≡ true → (b == n) ≡ false
apart p n b f t = elim (eqb_tells b n) [
  | inl k ↦ absurd (differ (p n) (subst (λ z. p z ≡ true) k.1 t) f)
  | inr k ↦ k.0
]

-- ---- bytes

-- no blank and no backquote
abbrev pub is_solid : ℕ → Bool
is_solid b = not (is_blank b) && not (b == 96)

not_any : (a b c d e f : Bool) → a ≡ false → b ≡ false → c ≡ false → d ≡ false → e ≡ false → f ≡ false → (not (a || b || c || d || e) && not f) ≡ true
not_any a b c d e f ha hb hc hd he hf = rw ha (rw hb (rw hc (rw hd (rw he (rw hf refl)))))

-- a test that no blank and no backquote passes
pub passes : (p : ℕ → Bool) → p 32 ≡ false → p 9 ≡ false → p 10 ≡ false → p 12 ≡ false → p 13 ≡ false → p 96 ≡ false → (b : ℕ) → p b ≡ true → is_solid b ≡ true
passes p h32 h9 h10 h12 h13 h96 b t =
    not_any (b == 32) (b == 9) (b == 10) (b == 12) (b == 13) (b == 96)
    (apart p 32 b h32 t) (apart p 9 b h9 t) (apart p 10 b h10 t) (apart p 12 b h12 t) (apart p 13 b h13 t) (apart p 96 b h96 t)

pub name_solid : (b : ℕ) → begins_name b ≡ true → is_solid b ≡ true
name_solid b = passes begins_name refl refl refl refl refl refl b

pub on_solid : (b : ℕ) → goes_on b ≡ true → is_solid b ≡ true
on_solid b = passes goes_on refl refl refl refl refl refl b

pub decimal_solid : (b : ℕ) → is_decimal b ≡ true → is_solid b ≡ true
decimal_solid b = passes is_decimal refl refl refl refl refl refl b

radix_within : (letter : ℕ) → nat_lt 16 (radix_of letter) ≡ false
radix_within letter =
    within (letter == 98 || letter == 66) (letter == 111 || letter == 79) (letter == 100 || letter == 68) (letter == 104 || letter == 72)
  where
    within : (b o d h : Bool) → nat_lt 16 (if b then 2 else if o then 8 else if d then 10 else if h then 16 else 0) ≡ false
    within true o d h = refl
    within false true d h = refl
    within false false true h = refl
    within false false false true = refl
    within false false false false = refl

-- a byte that is no digit in any base
pub letter_digit : (letter b : ℕ) → is_digit_of (radix_of letter) b ≡ true → is_solid b ≡ true
letter_digit letter b =
    let no : (nat_lt 16 (radix_of letter) || false || false) ≡ false = ap (λ v. v || false || false) (radix_within letter) in
    passes (is_digit_of (radix_of letter)) no no no no no no b

underscore_solid : (p : ℕ → Bool) → ((b : ℕ) → p b ≡ true → is_solid b ≡ true) → (b : ℕ) → or_underscore p b ≡ true → is_solid b ≡ true
underscore_solid p h b e = elim (eqb_tells b 95) [
  | inl k ↦ subst (λ z. is_solid z ≡ true) (sym k.1) refl
  | inr k ↦ h b (left (p b) (b == 95) k.0 e)
]
  where
    left : (u v : Bool) → v ≡ false → (u || v) ≡ true → u ≡ true
    left true v f e = refl
    left false v f e = absurd (differ v e f)

digits_solid : (p : ℕ → Bool) → ((b : ℕ) → p b ≡ true → is_solid b ≡ true) → (bs : List ℕ) → is_digits p bs ≡ true → list_all is_solid bs ≡ true
digits_solid p h [] e = refl
digits_solid p h (b ∷ bs) e =
    let both = split_and (p b) (list_all (or_underscore p) bs) e in
    join_and (is_solid b) (list_all is_solid bs) (h b both.0) (all_mono (or_underscore p) is_solid (underscore_solid p h) bs both.1)

letter_solid : (letter : ℕ) → (radix_of letter == 0) ≡ false → is_solid letter ≡ true
letter_solid letter e = passes (λ n. not (radix_of n == 0)) refl refl refl refl refl refl letter (ap not e)

size_solid : (size : List ℕ) → is_size size ≡ true → list_all is_solid size ≡ true
size_solid [] e = refl
size_solid (b ∷ bs) e = digits_solid is_decimal decimal_solid (b ∷ bs) e

-- ---- marks

-- what each entry's text passes
pub entries_pass : (p : List ℕ → Bool) (entries : List (List ℕ × Word)) (t : List ℕ) → list_all (λ e. p e.0) entries ≡ true → is_some (lookup entries t) ≡ true → p t ≡ true
entries_pass p [] t all h = absurd (differ false h refl)
entries_pass p (e ∷ es) t all h =
    let both = split_and (p e.0) (list_all (λ e. p e.0) es) all in
    (elim (bytes_eq e.0 t) as (λ v. bytes_eq e.0 t ≡ v → is_some (if v then Some e.1 else lookup es t) ≡ true → p t ≡ true) [
      | true ↦ λ same _. subst (λ z. p z ≡ true) ((bytes_eq-Decides e.0 t).0 same) both.0
      | false ↦ λ _ k. entries_pass p es t both.1 k
    ]) refl h

pub marks_pass : (p : List ℕ → Bool) → list_all (λ e. p e.0) marks ≡ true → (t : List ℕ) → is_some (mark t) ≡ true → p t ≡ true
unfolding mark
marks_pass p all t h = entries_pass p marks t all h

all_solid : list_all (λ e. list_all is_solid e.0) marks ≡ true
unfolding marks
all_solid = refl

-- ---- tokens

pub token_solid : (t : List ℕ) → IsToken t → list_all is_solid t ≡ true
token_solid t (name b bs e on) = join_and (is_solid b) (list_all is_solid bs) (name_solid b e) (all_mono goes_on is_solid on_solid bs on)
token_solid t (system bs some on) = all_mono goes_on is_solid on_solid bs on
token_solid t (sign text m) = marks_pass (λ z. list_all is_solid z) all_solid text m
token_solid t (decimal text e) = digits_solid is_decimal decimal_solid text e
token_solid t (based size letter digits s some e) = all_append is_solid size (39 ∷ letter ∷ digits) (size_solid size s)
    (join_and (is_solid letter) (list_all is_solid digits) (letter_solid letter some) (digits_solid (is_digit_of (radix_of letter)) (letter_digit letter) digits e))
