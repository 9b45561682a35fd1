-- The text of tokens divides into them again.
use Rattle.std.proofs.Common.{◌≡◌, ℕ, zero, suc, ◌+◌, ◌≤◌, ◌<◌, ◌==◌, Bool, true, false, not, if◌then◌else◌, inl, inr, List, [], ◌∷◌, ◌++◌, length, Option, None, Ok, refl, sym, ap, subst, arith, length-append}
use Rattle.std.specs.List.{list_all}
use Rattle.word_core.specs.declared.place.Place.{Place}
use Rattle.vlog_tokens.specs.declared.directive.Scan.{Scan}
use Rattle.vlog_tokens.specs.declared.directive.Scan.TheVariants.{Skip, Quote, Rest}
use Rattle.vlog_tokens.specs.declared.error.LexError.{LexError}
use Rattle.vlog_tokens.specs.declared.gap.Opening.TheVariants.{Blank}
use Rattle.vlog_tokens.specs.Bytes.{is_blank}
use Rattle.vlog_tokens.specs.Gaps.{opening, opening_of_solid, IsGap}
use Rattle.vlog_tokens.specs.Places.{start, past}
use Rattle.vlog_tokens.specs.Tokens.{Token}
use Rattle.vlog_tokens.specs.Reads.{Reads, ends, stops, gap, token}
use Rattle.vlog_tokens.specs.Directives.{IsSkip, Quotes, none, unclosed, skip, scan, LexAnswers}
use Rattle.vlog_tokens.proofs.Tests.{differ, split_and}
use Rattle.vlog_tokens.proofs.Scanning.{IsScan, scan_is}
use Rattle.token_text.specs.Printing.{texts, ends_line, space_before, feed_behind, printed_from, printed}
use Rattle.token_text.specs.Again.{IsGood, AreTokens, DividesInto}
use Rattle.token_text.proofs.Solid.{all_mono, all_append, all_back, is_solid, token_solid}
use Rattle.token_text.proofs.Openings.{ends_here, token_opens, token_longest}

-- ---- tokens and the blanks between them

-- the bytes from here on are read as tokens with these texts
abbrev Into : ℕ → Place → List ℕ → List (List ℕ) → Type 0
Into from at text ts = (found : List Token) × Reads from at text found None × (texts found ≡ ts)

blank_first : (b : ℕ) (bs : List ℕ) → is_blank b ≡ true → IsGap (opening (b ∷ bs)) (b ∷ []) bs
blank_first b bs e = subst (λ o. IsGap o (b ∷ []) bs) (sym (ap (λ v. if v then Blank else opening_of_solid (b ∷ bs)) e)) refl

blanked : (b : ℕ) (from : ℕ) (at : Place) (text : List ℕ) (ts : List (List ℕ)) → is_blank b ≡ true → Into (from + 1) (past at (b ∷ [])) text ts → Into from at (b ∷ text) ts
blanked b from at text ts e (found, r, same) = (found, gap from at (b ∷ []) text found None (blank_first b text e) r, same)

spaced : (is_fresh : Bool) (from : ℕ) (at : Place) (text : List ℕ) (ts : List (List ℕ)) → ((from : ℕ) (at : Place) → Into from at text ts) → Into from at (space_before is_fresh ++ text) ts
spaced true from at text ts h = h from at
spaced false from at text ts h = blanked 32 from at text ts refl (h (from + 1) (past at (32 ∷ [])))

fed : (is_last : Bool) (from : ℕ) (at : Place) (text : List ℕ) (ts : List (List ℕ)) → ((from : ℕ) (at : Place) → Into from at text ts) → Into from at (feed_behind is_last ++ text) ts
fed true from at text ts h = blanked 10 from at text ts refl (h (from + 1) (past at (10 ∷ [])))
fed false from at text ts h = h from at

ended : (is_last : Bool) (ts : List (List ℕ)) → ends_here (feed_behind is_last ++ printed_from is_last ts) ≡ true
unfolding printed_from
ended true ts = refl
ended false [] = refl
ended false (t ∷ ts) = refl

here : (t : List ℕ) (ts : List (List ℕ)) (back : List ℕ) (from : ℕ) (at : Place) → IsGood t → ends_here back ≡ true → Into (from + length t) (past at t) back ts → Into from at (t ++ back) (t ∷ ts)
here t ts back from at g e (found, r, same) = (
  record { text = t; at = at; from = from } ∷ found,
  token from at t back found None (token_opens t back g.token e) (token_longest t back g.token e) g.good r,
  ap (λ (z : List (List ℕ)). t ∷ z) same,
)

reads : (ts : List (List ℕ)) → AreTokens ts → (is_fresh : Bool) (from : ℕ) (at : Place) → Into from at (printed_from is_fresh ts) ts
unfolding printed_from
reads [] a is_fresh from at = ([], ends from at, refl)
reads (t ∷ ts) a is_fresh from at =
    let last : Bool = ends_line t in
    spaced is_fresh from at (t ++ (feed_behind (ends_line t) ++ printed_from (ends_line t) ts)) (t ∷ ts)
    (λ from at. here t ts (feed_behind (ends_line t) ++ printed_from (ends_line t) ts) from at a.0 (ended (ends_line t) ts)
    (fed (ends_line t) (from + length t) (past at t) (printed_from (ends_line t) ts) ts (reads ts a.1 (ends_line t))))

-- ---- no backquote

abbrev is_unquoted : ℕ → Bool
is_unquoted b = not (b == 96)

solid_unquoted : (b : ℕ) → is_solid b ≡ true → is_unquoted b ≡ true
solid_unquoted b e = (split_and (not (is_blank b)) (not (b == 96)) e).1

space_unquoted : (is_fresh : Bool) → list_all is_unquoted (space_before is_fresh) ≡ true
space_unquoted true = refl
space_unquoted false = refl

feed_unquoted : (is_last : Bool) → list_all is_unquoted (feed_behind is_last) ≡ true
feed_unquoted true = refl
feed_unquoted false = refl

all_unquoted : (ts : List (List ℕ)) → AreTokens ts → (is_fresh : Bool) → list_all is_unquoted (printed_from is_fresh ts) ≡ true
unfolding printed_from
all_unquoted [] a is_fresh = refl
all_unquoted (t ∷ ts) a is_fresh =
    let tail = all_append is_unquoted (feed_behind (ends_line t)) (printed_from (ends_line t) ts) (feed_unquoted (ends_line t)) (all_unquoted ts a.1 (ends_line t)) in
    let whole = all_append is_unquoted t (feed_behind (ends_line t) ++ printed_from (ends_line t) ts) (all_mono is_solid is_unquoted solid_unquoted t (token_solid t a.0.token)) tail in
    all_append is_unquoted (space_before is_fresh) (t ++ (feed_behind (ends_line t) ++ printed_from (ends_line t) ts)) (space_unquoted is_fresh) whole

-- what a scan does at a text without a backquote
scanned : (n : ℕ) (at : Place) (text : List ℕ) → ((at : Place) (rest : List ℕ) → length rest ≤ n → list_all is_unquoted rest ≡ true → Quotes at rest None)
    → length text ≤ suc n → list_all is_unquoted text ≡ true → (s : Scan) → IsScan text s → Quotes at text None
scanned n at text more l free (Skip k) S =
    let parts : length (S.taken ++ S.rest) ≡ length S.taken + length S.rest = length-append S.taken S.rest in
    let whole : length text ≡ length (S.taken ++ S.rest) = ap (λ (z : List ℕ). length z) S.whole in
    let long : length S.taken ≡ k = S.long in
    let some : 0 < k = S.some in
    let fits : length S.rest ≤ n = omega (arith, parts, whole, long, some, l) in
    let rest = all_back is_unquoted S.taken S.rest (subst (λ z. list_all is_unquoted z ≡ true) S.whole free) in
    subst (λ z. Quotes at z None) (sym S.whole)
    (skip at S.taken S.rest None (subst (λ z. IsSkip (opening z) S.taken S.rest) S.whole S.is_skip) (more (past at S.taken) S.rest fits rest))
scanned n at text more l free Quote S = absurd (differ false (subst (λ z. list_all is_unquoted z ≡ true) S.1 free) refl)
scanned n at text more l free Rest S = unclosed at text S.0 S.1

quote_free : (n : ℕ) (at : Place) (text : List ℕ) → length text ≤ n → list_all is_unquoted text ≡ true → Quotes at text None
quote_free n at [] l free = none at
quote_free zero at (b ∷ bs) l free = absurd (omega (arith, l))
quote_free (suc n) at (b ∷ bs) l free = scanned n at (b ∷ bs) (quote_free n) l free (scan (b ∷ bs)) (scan_is b bs)

-- ---- the whole text

pub divides : (ts : List (List ℕ)) → AreTokens ts → DividesInto (printed ts) ts
divides ts a =
    let r = reads ts a true 0 start in
    (r.0, inl (quote_free (length (printed ts)) start (printed ts) (omega arith) (all_unquoted ts a true), r.1), r.2)

-- ---- tokens of a text are tokens

reads_good : (from : ℕ) (at : Place) (text : List ℕ) (found : List Token) (stop : Option LexError) → Reads from at text found stop → AreTokens (texts found)
reads_good from at text found stop (ends f a) = tt
reads_good from at text found stop (stops f a t error s) = tt
reads_good from at text found stop (gap f a taken rest ts o g r) = reads_good (f + length taken) (past a taken) rest ts o r
reads_good from at text found stop (token f a taken rest ts o opens long good r) = (record { token = long.token; good = good }, reads_good (f + length taken) (past a taken) rest ts o r)

pub answer_good : (text : List ℕ) (found : List Token) → LexAnswers text (Ok found) → AreTokens (texts found)
answer_good text found (inl h) = reads_good 0 start text found None h.1
answer_good text found (inr h) = let no = h.2 in cc
