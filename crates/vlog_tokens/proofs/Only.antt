-- A text has one answer, but that memory may run out. Its tokens are slices of it.
use Rattle.std.proofs.Common.{◌≡◌, ◌≤◌, ◌<◌, ◌+◌, ◌==◌, ℕ, suc, Bool, true, false, List, [], ◌∷◌, ◌++◌, ◌⊎◌, inl, inr, length, take, drop, refl, sym, ◌∙◌, ap, subst, arith, append_assoc, length-append, Option, Some, None, Ok, Err, Result, IfOk}
use Rattle.std.proofs.lemmas.List.{take_at, drop_at}
use Rattle.word_core.specs.declared.place.Place.{Place}
use Rattle.vlog_tokens.specs.declared.directive.Scan.{Scan}
use Rattle.vlog_tokens.specs.declared.directive.Scan.TheVariants.{Skip, Quote, Rest}
use Rattle.vlog_tokens.specs.declared.error.LexError.{LexError}
use Rattle.vlog_tokens.specs.declared.error.LexError.TheVariants.{BadDirective, BadChar, BadNumber, Unclosed, Memory}
use Rattle.vlog_tokens.specs.declared.gap.Opening.{Opening}
use Rattle.vlog_tokens.specs.declared.gap.Opening.TheVariants.{Blank, Line, Block, Attribute, Other}
use Rattle.vlog_tokens.specs.Directives.{IsPlainByte, IsSkip, Quotes, none, unclosed, here, skip, scan, LexAnswers, OnlyAnswer, AreSlices}
use Rattle.vlog_tokens.specs.Gaps.{begins_with, opening, NeverCloses, IsGap}
use Rattle.vlog_tokens.specs.Places.{start, past}
use Rattle.vlog_tokens.specs.Reads.{Reads, ends, stops, gap, token, Divided}
use Rattle.vlog_tokens.specs.Tokens.{Token}
use Rattle.vlog_tokens.proofs.Tests.{differ}
use Rattle.vlog_tokens.proofs.Once.{reads_once, same_front, gap_once, gap_ends}
use Rattle.vlog_tokens.proofs.Scanning.{IsPassed, IsScan, scan_of_some, scan_is}

-- ---- each way to go on is the one that the place has

skip_once : (o : Opening) (taken rest other behind : List ℕ) → IsSkip o taken rest → IsSkip o other behind → taken ++ rest ≡ other ++ behind → length taken ≡ length other
skip_once Blank taken rest other behind s t e = s.one ∙ sym t.one
skip_once Line taken rest other behind s t e = gap_once Line taken rest other behind s t e
skip_once Block taken rest other behind s t e = gap_once Block taken rest other behind s t e
skip_once Attribute taken rest other behind s t e = s.one ∙ sym t.one
skip_once Other taken rest other behind s t e = s.one ∙ sym t.one

-- a byte that is passed is no backquote
no_quote : (taken rest bs : List ℕ) → IsPlainByte taken → 96 ∷ bs ≡ taken ++ rest → ⊥
no_quote [] rest bs p e = absurd (let one = p.one in omega arith)
no_quote (b ∷ more) rest bs p e =
    let same : 96 ≡ b = cc in
    let found : (b == 96) ≡ true = subst (λ z. (z == 96) ≡ true) same refl in
    differ (b == 96) found p.plain

skip_at_quote : (taken rest bs text : List ℕ) → text ≡ 96 ∷ bs → text ≡ taken ++ rest → IsSkip (opening text) taken rest → ⊥
skip_at_quote taken rest bs text q e s = no_quote taken rest bs (subst (λ z. IsSkip (opening z) taken rest) q s) (sym q ∙ e)

no_block : (text bs : List ℕ) → text ≡ 96 ∷ bs → opening text ≡ Block → ⊥
no_block text bs q o = let no : Other ≡ Block = sym (ap opening q) ∙ o in cc

skip_scan : (text taken rest : List ℕ) (s : Scan) → text ≡ taken ++ rest → IsSkip (opening text) taken rest → IsScan text s → s ≡ Skip (length taken)
skip_scan text taken rest (Skip n) e k S = ap (λ (m : ℕ). Skip m) (sym S.long ∙ skip_once (opening text) S.taken S.rest taken rest S.is_skip k (sym S.whole ∙ e))
skip_scan text taken rest Quote e k S = absurd (skip_at_quote taken rest S.0 text S.1 e k)
skip_scan text taken rest Rest e k S = absurd (gap_ends Block taken rest (subst (λ z. IsSkip z taken rest) S.0 k) (subst (λ z. NeverCloses 42 47 z) e S.1))

rest_scan : (text : List ℕ) (s : Scan) → opening text ≡ Block → NeverCloses 42 47 text → IsScan text s → s ≡ Rest
rest_scan text (Skip n) o h S = absurd (gap_ends Block S.taken S.rest (subst (λ z. IsSkip z S.taken S.rest) o S.is_skip) (subst (λ z. NeverCloses 42 47 z) S.whole h))
rest_scan text Quote o h S = absurd (no_block text S.0 S.1 o)
rest_scan text Rest o h S = refl

quote_scan : (bs : List ℕ) (s : Scan) → IsScan (96 ∷ bs) s → s ≡ Quote
quote_scan bs (Skip n) S = absurd (no_quote S.taken S.rest bs S.is_skip S.whole)
quote_scan bs Quote S = refl
quote_scan bs Rest S = absurd (no_block (96 ∷ bs) bs refl S.0)

block_some : (text : List ℕ) → opening text ≡ Block → 0 < length text
block_some [] o = absurd (let no : Other ≡ Block = o in cc)
block_some (b ∷ bs) o = omega arith

skip_some : (taken rest : List ℕ) → IsSkip (opening (taken ++ rest)) taken rest → 0 < length (taken ++ rest)
skip_some [] [] s = absurd (let one = s.one in omega arith)
skip_some [] (b ∷ bs) s = omega arith
skip_some (b ∷ bs) rest s = omega arith

is_rest : (text : List ℕ) → opening text ≡ Block → NeverCloses 42 47 text → scan text ≡ Rest
is_rest text o h = rest_scan text (scan text) o h (scan_of_some text (block_some text o))

is_quote : (bs : List ℕ) → scan (96 ∷ bs) ≡ Quote
is_quote bs = quote_scan bs (scan (96 ∷ bs)) (scan_is 96 bs)

is_skipped : (taken rest : List ℕ) → IsSkip (opening (taken ++ rest)) taken rest → scan (taken ++ rest) ≡ Skip (length taken)
is_skipped taken rest s = skip_scan (taken ++ rest) taken rest (scan (taken ++ rest)) refl s (scan_of_some (taken ++ rest) (skip_some taken rest s))

-- two ways to go on from one place are one
unlike : (text other : List ℕ) (s t : Scan) → text ≡ other → scan text ≡ s → scan other ≡ t → s ≡ t
unlike text other s t e f g = sym f ∙ ap scan e ∙ g

same_skip : (m n : ℕ) → Skip m ≡ Skip n → m ≡ n
same_skip m n e = cc

not_empty : (text : List ℕ) → 0 < length text → [] ≡ text → ⊥
not_empty text h e = absurd (let long : 0 ≡ length text = ap (λ (z : List ℕ). length z) e in omega (arith, long))

quoted_once : (at place : Place) (text other : List ℕ) (q r : Option Place) → at ≡ place → text ≡ other → Quotes at text q → Quotes place other r → q ≡ r
quoted_once at place text other q r p e (none _) (none _) = refl
quoted_once at place text other q r p e (none _) (unclosed _ _ o h) = refl
quoted_once at place text other q r p e (none _) (here _ bs) = absurd (let no : [] ≡ 96 ∷ bs = e in cc)
quoted_once at place text other q r p e (none _) (skip _ taken rest _ s d) = absurd (not_empty (taken ++ rest) (skip_some taken rest s) e)
quoted_once at place text other q r p e (unclosed _ _ o h) (none _) = refl
quoted_once at place text other q r p e (unclosed _ _ o h) (unclosed _ _ o' h') = refl
quoted_once at place text other q r p e (unclosed _ _ o h) (here _ bs) = absurd (let no : Rest ≡ Quote = unlike text (96 ∷ bs) Rest Quote e (is_rest text o h) (is_quote bs) in cc)
quoted_once at place text other q r p e (unclosed _ _ o h) (skip _ taken rest _ s d) = absurd (let no : Rest ≡ Skip (length taken) = unlike text (taken ++ rest) Rest (Skip (length taken)) e (is_rest text o h) (is_skipped taken rest s) in cc)
quoted_once at place text other q r p e (here _ bs) (none _) = absurd (let no : 96 ∷ bs ≡ [] = e in cc)
quoted_once at place text other q r p e (here _ bs) (unclosed _ _ o h) = absurd (let no : Quote ≡ Rest = unlike (96 ∷ bs) other Quote Rest e (is_quote bs) (is_rest other o h) in cc)
quoted_once at place text other q r p e (here _ bs) (here _ cs) = ap (λ (z : Place). Some z) p
quoted_once at place text other q r p e (here _ bs) (skip _ taken rest _ s d) = absurd (let no : Quote ≡ Skip (length taken) = unlike (96 ∷ bs) (taken ++ rest) Quote (Skip (length taken)) e (is_quote bs) (is_skipped taken rest s) in cc)
quoted_once at place text other q r p e (skip _ taken rest _ s d) (none _) = absurd (not_empty (taken ++ rest) (skip_some taken rest s) (sym e))
quoted_once at place text other q r p e (skip _ taken rest _ s d) (unclosed _ _ o h) = absurd (let no : Skip (length taken) ≡ Rest = unlike (taken ++ rest) other (Skip (length taken)) Rest e (is_skipped taken rest s) (is_rest other o h) in cc)
quoted_once at place text other q r p e (skip _ taken rest _ s d) (here _ bs) = absurd (let no : Skip (length taken) ≡ Quote = unlike (taken ++ rest) (96 ∷ bs) (Skip (length taken)) Quote e (is_skipped taken rest s) (is_quote bs) in cc)
quoted_once at place text other q r p e (skip _ taken rest _ s d) (skip _ taken' rest' _ s' d') =
    let long : length taken ≡ length taken' = same_skip (length taken) (length taken') (unlike (taken ++ rest) (taken' ++ rest') (Skip (length taken)) (Skip (length taken')) e (is_skipped taken rest s) (is_skipped taken' rest' s')) in
    let same = same_front taken rest taken' rest' e long in
    quoted_once (past at taken) (past place taken') rest rest' q r (ap (λ (z : Place). past z taken) p ∙ ap (λ (z : List ℕ). past place z) same.0) same.1 d d'

pub quotes_once : (at : Place) (text : List ℕ) (q r : Option Place) → Quotes at text q → Quotes at text r → q ≡ r
quotes_once at text q r d e = quoted_once at at text text q r refl refl d e

-- ---- one answer

answer_of : List Token → Option LexError → Result (List Token) LexError
answer_of found None = Ok found
answer_of found (Some error) = Err error

record IsRead (text : List ℕ) (answer : Result (List Token) LexError) : Type 0 where
  found : List Token
  stop : Option LexError
  reads : Reads 0 start text found stop
  same : answer ≡ answer_of found stop

divided_is : (text : List ℕ) (answer : Result (List Token) LexError) → Divided text answer → (answer ≡ Err Memory) ⊎ IsRead text answer
unfolding answer_of
divided_is text (Ok found) d = inr (record { found = found; stop = None; reads = d; same = refl })
divided_is text (Err Memory) d = inl refl
divided_is text (Err (BadDirective at)) d = inr (record { found = d.0; stop = Some (BadDirective at); reads = d.1; same = refl })
divided_is text (Err (BadChar at)) d = inr (record { found = d.0; stop = Some (BadChar at); reads = d.1; same = refl })
divided_is text (Err (BadNumber at)) d = inr (record { found = d.0; stop = Some (BadNumber at); reads = d.1; same = refl })
divided_is text (Err (Unclosed at)) d = inr (record { found = d.0; stop = Some (Unclosed at); reads = d.1; same = refl })

same_read : (text : List ℕ) (one other : Result (List Token) LexError) → IsRead text one → IsRead text other → one ≡ other
same_read text one other A B =
    let same = reads_once 0 start text A.found B.found A.stop B.stop A.reads B.reads in
    A.same ∙ ap (λ (z : List Token). answer_of z A.stop) same.0 ∙ ap (λ z. answer_of B.found z) same.1 ∙ sym B.same

abbrev Alike : Result (List Token) LexError → Result (List Token) LexError → Type 0
Alike one other = (one ≡ other) ⊎ ((one ≡ Err Memory) ⊎ (other ≡ Err Memory))

divided_once : (text : List ℕ) (one other : Result (List Token) LexError) → Divided text one → Divided text other → Alike one other
divided_once text one other d e = elim (divided_is text one d) [
  | inl m ↦ inr (inl m)
  | inr A ↦ elim (divided_is text other e) [ inl m ↦ inr (inr m) | inr B ↦ inl (same_read text one other A B) ]
]

pub only_answer : (text : List ℕ) (answer : Result (List Token) LexError) → LexAnswers text answer → OnlyAnswer text answer
only_answer text answer (inl a) other (inl b) = divided_once text other answer b.1 a.1
only_answer text answer (inl a) other (inr b) = absurd (let no : None ≡ Some b.0 = quotes_once start text None (Some b.0) a.0 b.1 in cc)
only_answer text answer (inr a) other (inl b) = absurd (let no : None ≡ Some a.0 = quotes_once start text None (Some a.0) b.0 a.1 in cc)
only_answer text answer (inr a) other (inr b) =
    let same : b.0 ≡ a.0 = (let some : Some b.0 ≡ Some a.0 = quotes_once start text (Some b.0) (Some a.0) b.1 a.1 in cc) in
    inl (b.2 ∙ ap (λ (z : Place). Err (BadDirective z)) same ∙ sym a.2)

-- ---- slices

slices_from : (text : List ℕ) (m n : ℕ) (found : List Token) → n ≤ m → AreSlices text m found → AreSlices text n found
slices_from text m n [] h s = tt
slices_from text m n (t ∷ ts) h s = (let behind = s.0 in omega (arith, behind, h), s.1, s.2)

reads_slices : (text front : List ℕ) (from : ℕ) (at : Place) (rest : List ℕ) (found : List Token) (stop : Option LexError) → text ≡ front ++ rest → length front ≡ from
    → Reads from at rest found stop → AreSlices text from found
reads_slices text front from at rest found stop e l (ends _ _) = tt
reads_slices text front from at rest found stop e l (stops _ _ _ error s) = tt
reads_slices text front from at rest found stop e l (gap _ _ taken more _ _ g d) =
    slices_from text (from + length taken) from found (omega arith)
    (reads_slices text (front ++ taken) (from + length taken) (past at taken) more found stop (e ∙ sym (append_assoc front taken more)) (length-append front taken ∙ ap (λ (z : ℕ). z + length taken) l) d)
reads_slices text front from at rest found stop e l (token _ _ taken more ts _ o L good d) = (
  omega arith,
  ap (λ (z : List ℕ). take (length taken) z) (ap (λ (z : List ℕ). drop from z) e ∙ drop_at front (taken ++ more) from l) ∙ take_at taken more (length taken) refl,
  reads_slices text (front ++ taken) (from + length taken) (past at taken) more ts stop (e ∙ sym (append_assoc front taken more)) (length-append front taken ∙ ap (λ (z : ℕ). z + length taken) l) d,
)

pub answer_slices : (text : List ℕ) (answer : Result (List Token) LexError) → LexAnswers text answer → IfOk answer (λ found. AreSlices text 0 found)
answer_slices text (Ok found) (inl a) = reads_slices text [] 0 start text found None refl refl a.1
answer_slices text (Ok found) (inr a) = absurd (let no : Ok found ≡ Err (BadDirective a.0) = a.2 in cc)
answer_slices text (Err error) a = tt
