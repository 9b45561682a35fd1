-- The tokens that are names begin with a letter or `_`, and have visible bytes alone, of which none is `[`.
use Rattle.std.proofs.Common.{◌≡◌, ℕ, ◌<◌, ◌≤◌, Bool, true, false, cond, not, ◌||◌, eqb, ltb, leb, List, [], ◌∷◌, ◌++◌, length, Option, Some, None, Ok, Err, refl, sym, ap, ◌∙◌, arith, codes, decimal, ◌≢◌, ◌^◌, inl, inr}
use Rattle.std.specs.Prelude.{is_some}
use Rattle.std.specs.Str.Parse.{AllDigits}
use Rattle.std.specs.List.{list_all, AllByRecursion}
use Rattle.std.specs.Str.{bytes_eq}
use Rattle.std.specs.Char.{is_ascii_alphabetic, is_ascii_alphanumeric}
use Rattle.std.specs.Int.{is_in_range}
use Rattle.std.proofs.lemmas.Bool.{false≢true, not-true, eqb-true, ne_eqb, leb-true, le-leb, lt-ltb, and_parts, and_from, or_cases, cases_cond}
use Rattle.std.proofs.lemmas.Fmt.{decimal_is_IsNumeral}
use Rattle.std.proofs.lemmas.List.Elements.{All-nil, All-cons}
use Rattle.std.proofs.lemmas.Str.Parse.{tells_digits}
use Rattle.line_text.proofs.Words.{same_bytes}
use Rattle.word_core.specs.declared.place.Place.{Place}
use Rattle.vlog_tokens.specs.declared.error.LexError.{LexError}
use Rattle.vlog_tokens.specs.declared.error.LexError.TheVariants.{BadDirective}
use Rattle.vlog_tokens.specs.declared.word.Word.{Word}
use Rattle.vlog_tokens.specs.declared.word.Word.TheVariants as w
use Rattle.vlog_tokens.specs.Bytes.{begins_name, goes_on, is_decimal}
use Rattle.vlog_tokens.specs.Numbers.{or_underscore, is_digits}
use Rattle.vlog_tokens.specs.Words.{keywords, marks, lookup, keyword, mark, begins_number, unspelled, or_unspelled, or_mark, word_of}
use Rattle.vlog_tokens.specs.Tokens as tokens
use Rattle.vlog_tokens.specs.Tokens.{Token, is_size, IsToken}
use Rattle.vlog_tokens.specs.Places.{start}
use Rattle.vlog_tokens.specs.Reads.{Reads, ends, stops, gap, token}
use Rattle.vlog_tokens.specs.Directives.{LexAnswers}
use Rattle.vlog_rules.specs.Grammar.{same}
use Rattle.cert_text.specs.Points.{is_visible, is_name, IsName, begins_with, IsStateName}
use Rattle.elab_flat.proofs.BitNames.{HasNoBracket}

-- ---- bytes

in_range : (lo hi b : ℕ) → is_in_range lo hi b ≡ true → (lo ≤ b) × (b ≤ hi)
in_range lo hi b e = let p = and_parts (leb lo b) (leb b hi) e in (leb-true lo b p.0, leb-true b hi p.1)

alphabetic : (b : ℕ) → is_ascii_alphabetic b ≡ true → (65 ≤ b) × (b ≤ 122)
alphabetic b e =
    elim (or_cases (is_in_range 65 90 b) (is_in_range 97 122 b) e) [
      | inl h ↦ (let p = in_range 65 90 b h in (p.0, omega (arith, p.1)))
      | inr h ↦ (let p = in_range 97 122 b h in (omega (arith, p.0), p.1))
    ]

begins : (b : ℕ) → begins_name b ≡ true → (65 ≤ b) × (b ≤ 122)
begins b e =
    elim (or_cases (is_ascii_alphabetic b) (eqb b 95) e) [
      | inl h ↦ alphabetic b h
      | inr h ↦ (let same = eqb-true b 95 h in (omega arith, omega arith))
    ]

alphanumeric : (b : ℕ) → is_ascii_alphanumeric b ≡ true → (33 ≤ b) × (b ≤ 126)
alphanumeric b e =
    elim (or_cases (is_in_range 48 57 b || is_in_range 65 90 b) (is_in_range 97 122 b) e) [
      | inl h ↦ elim (or_cases (is_in_range 48 57 b) (is_in_range 65 90 b) h) [
        | inl i ↦ (let p = in_range 48 57 b i in (omega (arith, p.0), omega (arith, p.1)))
        | inr i ↦ (let p = in_range 65 90 b i in (omega (arith, p.0), omega (arith, p.1)))
      ]
      | inr h ↦ (let p = in_range 97 122 b h in (omega (arith, p.0), omega (arith, p.1)))
    ]

goes : (b : ℕ) → goes_on b ≡ true → (33 ≤ b) × (b ≤ 126)
goes b e =
    elim (or_cases (is_ascii_alphanumeric b || eqb b 95) (eqb b 36) e) [
      | inl h ↦ elim (or_cases (is_ascii_alphanumeric b) (eqb b 95) h) [
        | inl i ↦ alphanumeric b i
        | inr i ↦ (let same = eqb-true b 95 i in (omega arith, omega arith))
      ]
      | inr h ↦ (let same = eqb-true b 36 h in (omega arith, omega arith))
    ]

visible : (b : ℕ) → (33 ≤ b) × (b ≤ 126) → is_visible b ≡ true
visible b h = and_from (leb 33 b) (leb b 126) (le-leb 33 b h.0) (le-leb b 126 h.1)

all_visible : (bs : List ℕ) → list_all goes_on bs ≡ true → list_all is_visible bs ≡ true
all_visible [] e = refl
all_visible (b ∷ bs) e =
    let p = and_parts (goes_on b) (list_all goes_on bs) e in
    and_from (is_visible b) (list_all is_visible bs) (visible b (goes b p.0)) (all_visible bs p.1)

-- ---- names

no_bracket : (bs : List ℕ) → list_all goes_on bs ≡ true → HasNoBracket bs
no_bracket [] e = All-nil (λ b. b ≢ 91)
no_bracket (b ∷ bs) e =
    let p = and_parts (goes_on b) (list_all goes_on bs) e in
    All-cons (λ b. b ≢ 91) b bs (λ is. false≢true (sym (ap goes_on is) ∙ p.0)) (no_bracket bs p.1)

-- a byte that begins a name, and visible bytes behind it, none of them `[`
pub record IsIdent (name : List ℕ) : Type 0 where
  pub first : ℕ
  pub others : List ℕ
  pub whole : name ≡ first ∷ others
  pub begins : (65 ≤ first) × (first ≤ 122)
  pub visible : list_all is_visible others ≡ true
  pub plain : HasNoBracket name

all_append : (xs ys : List ℕ) → list_all is_visible xs ≡ true → list_all is_visible ys ≡ true → list_all is_visible (xs ++ ys) ≡ true
all_append [] ys a b = b
all_append (x ∷ xs) ys a b =
    let p = and_parts (is_visible x) (list_all is_visible xs) a in
    and_from (is_visible x) (list_all is_visible (xs ++ ys)) p.0 (all_append xs ys p.1 b)

visible_ident : (name : List ℕ) → IsIdent name → list_all is_visible name ≡ true
visible_ident name h =
    ap (list_all is_visible) h.whole
    ∙ and_from (is_visible h.first) (list_all is_visible h.others) (visible h.first (omega (arith, h.begins.0), omega (arith, h.begins.1))) h.visible

pub ident_name : (name : List ℕ) → IsIdent name → IsName name
ident_name name h =
    and_from (ltb 0 (length name)) (list_all is_visible name) (lt-ltb 0 (length name) (omega (arith, ap length h.whole))) (visible_ident name h)

-- the name of a port in its scope doesn't begin with a minus
pub scoped_state_name : (path name : List ℕ) → IsIdent path → IsIdent name → IsStateName (path ++ codes "." ++ name)
scoped_state_name path name p n =
    let whole : List ℕ = path ++ codes "." ++ name in
    let same : whole ≡ (p.first ∷ p.others) ++ codes "." ++ name = ap (λ (xs : List ℕ). xs ++ codes "." ++ name) p.whole in
    let seen : list_all is_visible whole ≡ true = all_append (path ++ codes ".") name (all_append path (codes ".") (visible_ident path p) refl) (visible_ident name n) in
    let named : is_name whole ≡ true = and_from (ltb 0 (length whole)) (list_all is_visible whole) (lt-ltb 0 (length whole) (omega (arith, ap length same))) seen in
    let begun : begins_with 45 whole ≡ false = ap (begins_with 45) same ∙ ne_eqb p.first 45 (λ e. absurd (omega (arith, p.begins.0, e))) in
    and_from (is_name whole) (not (begins_with 45 whole)) named (ap not begun)

-- nor does it with visible bytes behind it
longer : (xs ys : List ℕ) → IsStateName xs → list_all is_visible ys ≡ true → IsStateName (xs ++ ys)
longer [] ys named seen = absurd (false≢true named)
longer (x ∷ xs) ys named seen =
    let p = and_parts (is_name (x ∷ xs)) (not (begins_with 45 (x ∷ xs))) named in
    let q = and_parts (ltb 0 (length (x ∷ xs))) (list_all is_visible (x ∷ xs)) p.0 in
    let both = and_from (ltb 0 (length (x ∷ xs ++ ys))) (list_all is_visible (x ∷ xs ++ ys)) (lt-ltb 0 (length (x ∷ xs ++ ys)) (omega arith)) (all_append (x ∷ xs) ys q.1 seen) in
    and_from (is_name (x ∷ xs ++ ys)) (not (begins_with 45 (x ∷ xs ++ ys))) both p.1

digits_visible : (ds : List ℕ) → AllDigits 10 ds → list_all is_visible ds ≡ true
digits_visible [] h = refl
digits_visible (d ∷ ds) h =
    let p = tells_digits.parts d ds h in
    and_from (is_visible d) (list_all is_visible ds) (visible d (omega (arith, p.0.0), omega (arith, p.0.1))) (digits_visible ds p.1)

-- an index behind it
pub indexed_state_name : (name : List ℕ) (i : ℕ) → i < 2 ^ 64 → IsStateName name → IsStateName (name ++ codes "[" ++ decimal i ++ codes "]")
indexed_state_name name i small named =
    longer (name ++ codes "[" ++ decimal i) (codes "]")
    (longer (name ++ codes "[") (decimal i) (longer name (codes "[") named refl) (digits_visible (decimal i) (decimal_is_IsNumeral i small).0.1)) refl

-- ---- words of the grammar

abbrev Begun : List ℕ → Type 0
Begun text = (b : ℕ) × (bs : List ℕ) × (text ≡ b ∷ bs) × (begins_name b ≡ true)

-- no keyword or mark is a name
is_listed_name : (entries : List (List ℕ × Word)) (text : List ℕ) → list_all (λ (e : List ℕ × Word). not (same w.Name e.1)) entries ≡ true → (word : Word) → lookup entries text ≡ Some word → same w.Name word ≡ true → ⊥
is_listed_name [] text other word found is = cc
is_listed_name (entry ∷ entries) text other word found is =
    let p = and_parts (not (same w.Name entry.1)) (list_all (λ (e : List ℕ × Word). not (same w.Name e.1)) entries) other in
    elim (cases_cond (bytes_eq entry.0 text) (Some entry.1) (lookup entries text) (Some word) (sym found)) [
      | inl e ↦ (let this : word ≡ entry.1 = cc in false≢true (sym (not-true (same w.Name entry.1) p.0) ∙ ap (same w.Name) (sym this) ∙ is))
      | inr e ↦ is_listed_name entries text p.1 word (sym e) is
    ]

no_keyword : list_all (λ (e : List ℕ × Word). not (same w.Name e.1)) keywords ≡ true
unfolding keywords same
no_keyword = refl

no_mark : list_all (λ (e : List ℕ × Word). not (same w.Name e.1)) marks ≡ true
unfolding marks same
no_mark = refl

begun_unspelled : (text : List ℕ) → same w.Name (unspelled text) ≡ true → Begun text
unfolding same
begun_unspelled [] e = absurd (false≢true e)
begun_unspelled (b ∷ bs) e = by (begins_number b) (begins_name b) refl e
  where
    by : (s t : Bool) → begins_name b ≡ t → same w.Name (cond s w.Number (cond t w.Name w.LeftOut)) ≡ true → Begun (b ∷ bs)
    by true t is e = absurd (false≢true e)
    by false true is e = (b, bs, refl, is)
    by false false is e = absurd (false≢true e)

begun_other : (text : List ℕ) → same w.Name (or_unspelled text (mark text)) ≡ true → Begun text
unfolding mark
begun_other text e = by (lookup marks text) refl e
  where
    by : (o : Option Word) → lookup marks text ≡ o → same w.Name (or_unspelled text o) ≡ true → Begun text
    by (Some word) found e = absurd (is_listed_name marks text no_mark word found e)
    by None found e = begun_unspelled text e

begun_word : (text : List ℕ) → same w.Name (word_of text) ≡ true → Begun text
unfolding word_of keyword
begun_word text e = by (lookup keywords text) refl e
  where
    by : (o : Option Word) → lookup keywords text ≡ o → same w.Name (or_mark text o) ≡ true → Begun text
    by (Some word) found e = absurd (is_listed_name keywords text no_keyword word found e)
    by None found e = begun_other text e

-- ---- tokens

abbrev pub IsTokenOf : Token → Type 0
IsTokenOf t = IsToken t.text

all_tokens : (from : ℕ) (at : Place) (text : List ℕ) (found : List Token) (stop : Option LexError) → Reads from at text found stop → AllByRecursion IsTokenOf found
all_tokens from at text found stop (ends _ _) = tt
all_tokens from at text found stop (stops _ _ _ error s) = tt
all_tokens from at text found stop (gap _ _ taken rest _ _ g d) = all_tokens _ _ rest found stop d
all_tokens from at text found stop (token _ _ taken rest ts _ o longest good d) = (longest.token, all_tokens _ _ rest ts stop d)

pub tokens_of : (text : List ℕ) (found : List Token) → LexAnswers text (Ok found) → AllByRecursion IsTokenOf found
tokens_of text found (inl d) = all_tokens 0 start text found None d.1
tokens_of text found (inr e) = absurd (let not_ok : Ok found ≡ Err (BadDirective e.0) = e.2 in cc)

-- what begins as a name is no mark

abbrev begins_by : List ℕ → Bool
begins_by [] = false
begins_by (b ∷ bs) = begins_name b

no_entry : (entry : List ℕ × Word) (text : List ℕ) (rest : Option Word) → not (begins_by entry.0) ≡ true → begins_by text ≡ true → (is_some rest ≡ true → ⊥) →
    (t : Bool) → bytes_eq entry.0 text ≡ t → is_some (cond t (Some entry.1) rest) ≡ true → ⊥
no_entry entry text rest other begun later true here found = false≢true (sym (not-true (begins_by entry.0) other) ∙ ap begins_by (same_bytes entry.0 text here) ∙ begun)
no_entry entry text rest other begun later false here found = later found

unlisted : (entries : List (List ℕ × Word)) (text : List ℕ) → list_all (λ (e : List ℕ × Word). not (begins_by e.0)) entries ≡ true → begins_by text ≡ true → is_some (lookup entries text) ≡ true → ⊥
unlisted [] text others begun found = false≢true found
unlisted (entry ∷ entries) text others begun found =
    let p = and_parts (not (begins_by entry.0)) (list_all (λ (e : List ℕ × Word). not (begins_by e.0)) entries) others in
    no_entry entry text (lookup entries text) p.0 begun (unlisted entries text p.1 begun) (bytes_eq entry.0 text) refl found

no_mark_begins : list_all (λ (e : List ℕ × Word). not (begins_by e.0)) marks ≡ true
unfolding marks
no_mark_begins = refl

not_mark : (text : List ℕ) → begins_by text ≡ true → is_some (mark text) ≡ true → ⊥
unfolding mark
not_mark text begun is = unlisted marks text no_mark_begins begun is

-- nor a number, nor a `$` with more behind it

not_digits : (bs : List ℕ) → begins_by bs ≡ true → is_digits is_decimal bs ≡ true → ⊥
not_digits [] begun is = false≢true begun
not_digits (b ∷ bs) begun is =
    let digit = in_range 48 57 b (and_parts (is_decimal b) (list_all (or_underscore is_decimal) bs) is).0 in
    let letter = begins b begun in
    omega (arith, digit.1, letter.0)

not_sized : (size more : List ℕ) → is_size size ≡ true → begins_by (size ++ 39 ∷ more) ≡ true → ⊥
not_sized [] more is begun = false≢true begun
not_sized (b ∷ bs) more is begun = not_digits (b ∷ bs) begun is

token_ident : (text : List ℕ) → IsToken text → begins_by text ≡ true → IsIdent text
token_ident text (tokens.name b bs head rest) begun = record {
  first = b;
  others = bs;
  whole = refl;
  begins = begins b head;
  visible = all_visible bs rest;
  plain = All-cons (λ b. b ≢ 91) b bs (λ is. false≢true (sym (ap begins_name is) ∙ head)) (no_bracket bs rest);
}
token_ident text (tokens.system bs some rest) begun = absurd (false≢true begun)
token_ident text (tokens.sign _ is) begun = absurd (not_mark text begun is)
token_ident text (tokens.decimal _ is) begun = absurd (not_digits text begun is)
token_ident text (tokens.based size letter digits sized base is) begun = absurd (not_sized size (letter ∷ digits) sized begun)

pub name_token : (t : Token) → IsTokenOf t → same w.Name (word_of t.text) ≡ true → IsIdent t.text
name_token t is named =
    let begun = begun_word t.text named in
    token_ident t.text is (ap begins_by begun.2 ∙ begun.3)
