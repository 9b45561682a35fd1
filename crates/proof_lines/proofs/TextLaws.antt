-- What reading a whole text answers.
use Rattle.std.proofs.Common.{◌≡◌, ◌≢◌, ℕ, ◌+◌, Bool, true, false, cond, List, [], ◌∷◌, ◌++◌, length, map, Option, Some, None, Result, Ok, Err, refl, sym, ap, subst, ◌∙◌, append_assoc, arith}
use Rattle.std.specs.List.{AllByRecursion}
use Rattle.std.proofs.lemmas.List.{append-nil}
use Rattle.std.proofs.lemmas.List.Concat.{flat_map-append}
use Rattle.cnf_core.specs.declared.Line.{Line}
use Rattle.line_text.specs.Lines.{Line as Words, Source, source_of, whole_lines, tail_of, text_of, line_text, IsLine}
use Rattle.line_text.proofs.Cutting.{text_is, source_text}
use Rattle.proof_lines.specs.Spelling.{PlainLine, plain, line_words, spelling, Fits, RatLine, rat_words, IsRat}
use Rattle.proof_lines.specs.Reading.{lrat_of, is_rat, fault_of, onto, lines_of, all_lines, text_lines}
use Rattle.proof_lines.specs.Read.{AreRead}
use Rattle.proof_lines.specs.Answers.{IsFirstBad, HasRat, LratAnswers, LratGives}
use Rattle.proof_lines.specs.declared.error.LratError.{LratError}
use Rattle.proof_lines.specs.declared.error.LratError.TheVariants.{BadLine, RatHint, Memory}
use Rattle.proof_lines.proofs.LineLaws.{lrat_takes, lrat_again, lrat_is_line, rat_is_line, rat_takes, rat_again}

abbrev Lines : Type 0
Lines = Result (List PlainLine) LratError

abbrev good_lines : List PlainLine → Lines
good_lines xs = Ok xs

ok_is : (xs ys : List PlainLine) → good_lines xs ≡ Ok ys → xs ≡ ys
ok_is xs ys e = cc

-- ---- lines that are read

record Taken (ls : List Words) (tail : List ℕ) (xs : List PlainLine) : Type 0 where
  lines : ls ≡ map line_words xs
  ended : tail ≡ []
  fits : AllByRecursion Fits xs

taken_by :
    (l : Words) (ls : List Words) (tail : List ℕ) (xs : List PlainLine) (o : Option PlainLine) (fault : LratError) (r : Lines) → lrat_of l ≡ o →
    ((ys : List PlainLine) → r ≡ Ok ys → Taken ls tail ys) → onto o fault r ≡ Ok xs → Taken (l ∷ ls) tail xs
taken_by l ls tail xs None fault r e go h = absurd cc
taken_by l ls tail xs (Some x) fault (Err f) e go h = absurd cc
taken_by l ls tail xs (Some x) fault (Ok ys) e go h =
    let t = go ys refl in
    let one = lrat_takes l x e in
    subst (λ (zs : List PlainLine). Taken (l ∷ ls) tail zs) (ok_is (x ∷ ys) xs h) (record {
      lines = ap (λ (k : Words). k ∷ ls) one.0 ∙ ap (λ (ks : List Words). line_words x ∷ ks) t.lines;
      ended = t.ended;
      fits = (one.1, t.fits);
    })

lines_take : (n : ℕ) (ls : List Words) (tail : List ℕ) (xs : List PlainLine) → lines_of n ls tail ≡ Ok xs → Taken ls tail xs
lines_take n [] [] xs e =
    let none : List PlainLine = [] in
    subst (λ (zs : List PlainLine). Taken [] [] zs) (ok_is none xs e) (record { lines = refl; ended = refl; fits = tt })
lines_take n [] (b ∷ bs) xs e = absurd cc
lines_take n (l ∷ ls) tail xs e =
    taken_by l ls tail xs (lrat_of l) (fault_of n l) (lines_of (n + 1) ls tail) refl (λ ys. lines_take (n + 1) ls tail ys) e

lines_again : (n : ℕ) (xs : List PlainLine) → AllByRecursion Fits xs → lines_of n (map line_words xs) [] ≡ Ok xs
lines_again n [] f = refl
lines_again n (x ∷ xs) f =
    ap (λ (o : Option PlainLine). onto o (fault_of n (line_words x)) (lines_of (n + 1) (map line_words xs) [])) (lrat_again x f.0)
    ∙ ap (onto (Some x) (fault_of n (line_words x))) (lines_again (n + 1) xs f.1)

-- ---- where reading stops

-- why reading stops at this line, which has the number n
abbrev Stops : ℕ → List Words → List ℕ → LratError → Type 0
Stops n [] tail e = (tail ≢ []) × (e ≡ BadLine n)
Stops n (l ∷ ls) tail e = (lrat_of l ≡ None) × (e ≡ fault_of n l)

record Stopped (n : ℕ) (ls : List Words) (tail : List ℕ) (e : LratError) : Type 0 where
  good : List PlainLine
  left : List Words
  parts : ls ≡ map line_words good ++ left
  fits : AllByRecursion Fits good
  stops : Stops (n + length good) left tail e

stopped_by :
    (n : ℕ) (l : Words) (ls : List Words) (tail : List ℕ) (e : LratError) (o : Option PlainLine) (r : Lines) → lrat_of l ≡ o →
    ((d : LratError) → r ≡ Err d → Stopped (n + 1) ls tail d) → onto o (fault_of n l) r ≡ Err e → Stopped n (l ∷ ls) tail e
stopped_by n l ls tail e None r q go h =
    let same : e ≡ fault_of n l = cc in
    let here : n ≡ n + 0 = omega arith in
    record { good = []; left = l ∷ ls; parts = refl; fits = tt; stops = (q, same ∙ ap (λ (k : ℕ). fault_of k l) here) }
stopped_by n l ls tail e (Some x) (Ok ys) q go h = absurd cc
stopped_by n l ls tail e (Some x) (Err d) q go h =
    let same : d ≡ e = cc in
    let s = go d refl in
    let one = lrat_takes l x q in
    let count : (n + 1) + length s.good ≡ n + length (x ∷ s.good) = omega arith in
    record {
      good = x ∷ s.good;
      left = s.left;
      parts = ap (λ (k : Words). k ∷ ls) one.0 ∙ ap (λ (ks : List Words). line_words x ∷ ks) s.parts;
      fits = (one.1, s.fits);
      stops = subst (λ (k : ℕ). Stops k s.left tail e) count (subst (λ (f : LratError). Stops ((n + 1) + length s.good) s.left tail f) same s.stops);
    }

not_nil : (b : ℕ) (bs : List ℕ) → b ∷ bs ≢ []
not_nil b bs e = cc

lines_stop : (n : ℕ) (ls : List Words) (tail : List ℕ) (e : LratError) → lines_of n ls tail ≡ Err e → Stopped n ls tail e
lines_stop n [] [] e h = absurd cc
lines_stop n [] (b ∷ bs) e h =
    let same : e ≡ BadLine n = cc in
    let here : n ≡ n + 0 = omega arith in
    record { good = []; left = []; parts = refl; fits = tt; stops = (not_nil b bs, same ∙ ap (λ (k : ℕ). BadLine k) here) }
lines_stop n (l ∷ ls) tail e h =
    stopped_by n l ls tail e (lrat_of l) (lines_of (n + 1) ls tail) refl (λ d. lines_stop (n + 1) ls tail d) h

-- ---- texts

good_are_lines : (xs : List PlainLine) → AllByRecursion Fits xs → AllByRecursion IsLine (map line_words xs)
good_are_lines [] f = tt
good_are_lines (x ∷ xs) f = (lrat_is_line x f.0, good_are_lines xs f.1)

lines_append : (xs ys : List Words) → AllByRecursion IsLine xs → AllByRecursion IsLine ys → AllByRecursion IsLine (xs ++ ys)
lines_append [] ys p q = q
lines_append (x ∷ xs) ys p q = (p.0, lines_append xs ys p.1 q)

-- a text that spells lines
spelled : (xs : List PlainLine) → AllByRecursion Fits xs → source_of 1 (spelling xs) ≡ record { line = 1; lines = map line_words xs; tail = [] }
unfolding whole_lines tail_of
spelled xs f =
    ap (source_of 1) (sym (append-nil (spelling xs))) ∙ source_text 1 (map line_words xs) [] (good_are_lines xs f)
    ∙ ap (λ (ls : List Words). record { line = 1; lines = ls; tail = [] }) (append-nil (map line_words xs))

-- a text that has a line behind others
one_more :
    (text : List ℕ) (good : List PlainLine) (l : Words) (rest : List ℕ) → AllByRecursion Fits good → IsLine l → text ≡ spelling good ++ (line_text l ++ rest) →
    (source_of 1 text).lines ≡ map line_words good ++ l ∷ (source_of 1 rest).lines
one_more text good l rest f line e =
    let one : text_of (l ∷ []) ≡ line_text l = append-nil (line_text l) in
    let whole : text ≡ text_of (map line_words good ++ l ∷ []) ++ rest =
    e ∙ ap (λ (t : List ℕ). spelling good ++ (t ++ rest)) (sym one) ∙ sym (append_assoc (spelling good) (text_of (l ∷ [])) rest)
    ∙ ap (λ (t : List ℕ). t ++ rest) (sym (flat_map-append line_text (map line_words good) (l ∷ []))) in
    ap (λ (t : List ℕ). (source_of 1 t).lines) whole
    ∙ ap (λ (s : Source). s.lines) (source_text 1 (map line_words good ++ l ∷ []) rest (lines_append (map line_words good) (l ∷ []) (good_are_lines good f) (line, tt)))
    ∙ append_assoc (map line_words good) (l ∷ []) (source_of 1 rest).lines

abbrev tail_list : List Words → List Words
tail_list [] = []
tail_list (x ∷ xs) = xs

same_rest : (xs ys zs : List Words) → xs ++ ys ≡ xs ++ zs → ys ≡ zs
same_rest [] ys zs e = e
same_rest (x ∷ xs) ys zs e = same_rest xs ys zs (ap tail_list e)

nil_not_cons : (l : Words) (ls : List Words) → [] ≡ l ∷ ls → ⊥
nil_not_cons l ls e = cc

heads : (k l : Words) (ks ls : List Words) → k ∷ ks ≡ l ∷ ls → k ≡ l
heads k l ks ls e = cc

unread : (x : PlainLine) → Some x ≡ None → ⊥
unread x e = cc

-- what stops reading is no line
no_line : (n : ℕ) (left more : List Words) (tail : List ℕ) (e : LratError) (x : PlainLine) → Stops n left tail e → Fits x → left ≡ line_words x ∷ more → ⊥
no_line n [] more tail e x s f h = nil_not_cons (line_words x) more h
no_line n (l ∷ ls) more tail e x s f h =
    unread x (sym (lrat_again x f) ∙ ap lrat_of (sym (heads l (line_words x) ls more h)) ∙ s.0)

not_ended : (n : ℕ) (left : List Words) (tail : List ℕ) (e : LratError) → Stops n left tail e → left ≡ [] → tail ≡ [] → ⊥
not_ended n [] tail e s h t = s.0 t
not_ended n (l ∷ ls) tail e s h t = nil_not_cons l ls (sym h)

first_bad :
    (text : List ℕ) (line : ℕ) (e : LratError) (s : Stopped 1 (source_of 1 text).lines (source_of 1 text).tail e) → line ≡ length s.good + 1 →
    IsFirstBad text line s.good
first_bad text line e s place =
    let whole : text ≡ spelling s.good ++ (text_of s.left ++ tail_of text) =
    sym (text_is 1 text) ∙ ap (λ (ls : List Words). text_of ls ++ tail_of text) s.parts
    ∙ ap (λ (t : List ℕ). t ++ tail_of text) (flat_map-append line_text (map line_words s.good) s.left)
    ∙ append_assoc (spelling s.good) (text_of s.left) (tail_of text) in
    record {
      fits = s.fits;
      place = place;
      begins = (text_of s.left ++ tail_of text, whole);
      more = λ h.
          let sources : source_of 1 text ≡ record { line = 1; lines = map line_words s.good; tail = [] } = ap (source_of 1) h ∙ spelled s.good s.fits in
          let none : s.left ≡ [] = same_rest (map line_words s.good) s.left [] (sym s.parts ∙ ap (λ (u : Source). u.lines) sources ∙ sym (append-nil (map line_words s.good))) in
          not_ended (1 + length s.good) s.left (tail_of text) e s.stops none (ap (λ (u : Source). u.tail) sources);
      refused = λ x rest f h.
          let lines : (source_of 1 text).lines ≡ map line_words s.good ++ line_words x ∷ (source_of 1 rest).lines = one_more text s.good (line_words x) rest s.fits (lrat_is_line x f) h in
          no_line (1 + length s.good) s.left (source_of 1 rest).lines (tail_of text) e x s.stops f (same_rest (map line_words s.good) s.left (line_words x ∷ (source_of 1 rest).lines) (sym s.parts ∙ lines));
    }

-- ---- which fault

fault_bad : (b : Bool) (line n : ℕ) → BadLine line ≡ cond b (RatHint n) (BadLine n) → (b ≡ false) × (line ≡ n)
fault_bad true line n e = absurd cc
fault_bad false line n e = (refl, cc)

fault_rat : (b : Bool) (line n : ℕ) → RatHint line ≡ cond b (RatHint n) (BadLine n) → (b ≡ true) × (line ≡ n)
fault_rat true line n e = (refl, cc)
fault_rat false line n e = absurd cc

same_bad : (line n : ℕ) → BadLine line ≡ BadLine n → line ≡ n
same_bad line n e = cc

bad_place : (line n : ℕ) (left : List Words) (tail : List ℕ) → Stops n left tail (BadLine line) → line ≡ n
bad_place line n [] tail s = same_bad line n s.1
bad_place line n (l ∷ ls) tail s = (fault_bad (is_rat l) line n s.1).1

true_false : true ≡ false → ⊥
true_false e = cc

no_rat : (line n : ℕ) (left more : List Words) (tail : List ℕ) (x : RatLine) → Stops n left tail (BadLine line) → IsRat x → left ≡ rat_words x ∷ more → ⊥
no_rat line n [] more tail x s f h = nil_not_cons (rat_words x) more h
no_rat line n (l ∷ ls) more tail x s f h =
    true_false (sym (rat_again x f) ∙ ap is_rat (sym (heads l (rat_words x) ls more h)) ∙ (fault_bad (is_rat l) line n s.1).0)

bad_not_rat : (line n : ℕ) → RatHint line ≡ BadLine n → ⊥
bad_not_rat line n e = cc

rat_at :
    (text : List ℕ) (line n : ℕ) (good : List PlainLine) (left : List Words) (tail : List ℕ) → Stops n left tail (RatHint line) →
    text ≡ spelling good ++ (text_of left ++ tail) → (line ≡ n) × HasRat text good
rat_at text line n good [] tail s e = absurd (bad_not_rat line n s.1)
rat_at text line n good (l ∷ ls) tail s e =
    let f = fault_rat (is_rat l) line n s.1 in
    let r = rat_takes l f.0 in
    (f.1, (r.0, text_of ls ++ tail, r.1, e ∙ ap (λ (t : List ℕ). spelling good ++ t) (append_assoc (line_text l) (text_of ls) tail ∙ ap (λ (k : Words). line_text k ++ (text_of ls ++ tail)) r.2)))

bad_answer : (text : List ℕ) (line : ℕ) → text_lines text ≡ Err (BadLine line) → (good : List PlainLine) × IsFirstBad text line good × (HasRat text good → ⊥)
unfolding text_lines
bad_answer text line e =
    let s = lines_stop 1 (source_of 1 text).lines (source_of 1 text).tail (BadLine line) e in
    let place : line ≡ 1 + length s.good = bad_place line (1 + length s.good) s.left (source_of 1 text).tail s.stops in (
      s.good,
      first_bad text line (BadLine line) s (omega (arith, place)),
      λ r. no_rat line (1 + length s.good) s.left (source_of 1 r.1).lines (source_of 1 text).tail r.0 s.stops r.2
          (same_rest (map line_words s.good) s.left (rat_words r.0 ∷ (source_of 1 r.1).lines) (sym s.parts ∙ one_more text s.good (rat_words r.0) r.1 s.fits (rat_is_line r.0 r.2) r.3)),
    )

rat_answer : (text : List ℕ) (line : ℕ) → text_lines text ≡ Err (RatHint line) → (good : List PlainLine) × IsFirstBad text line good × HasRat text good
unfolding text_lines
rat_answer text line e =
    let s = lines_stop 1 (source_of 1 text).lines (source_of 1 text).tail (RatHint line) e in
    let whole : text ≡ spelling s.good ++ (text_of s.left ++ tail_of text) =
    sym (text_is 1 text) ∙ ap (λ (ls : List Words). text_of ls ++ tail_of text) s.parts
    ∙ ap (λ (t : List ℕ). t ++ tail_of text) (flat_map-append line_text (map line_words s.good) s.left)
    ∙ append_assoc (spelling s.good) (text_of s.left) (tail_of text) in
    let r = rat_at text line (1 + length s.good) s.good s.left (tail_of text) s.stops whole in
    (s.good, first_bad text line (RatHint line) s (omega (arith, r.0)), r.1)

pub law_answers : (text : List ℕ) (r : Result (List Line) LratError) → AreRead r (text_lines text) → LratAnswers text r
unfolding text_lines
law_answers text (Ok lines) h =
    let t = lines_take 1 (source_of 1 text).lines (source_of 1 text).tail (map plain lines) h in (
      t.fits,
      sym (text_is 1 text) ∙ ap (λ (z : List ℕ). text_of (source_of 1 text).lines ++ z) t.ended ∙ append-nil (text_of (source_of 1 text).lines) ∙ ap text_of t.lines,
    )
law_answers text (Err (BadLine line)) h = bad_answer text line h
law_answers text (Err (RatHint line)) h = rat_answer text line h
law_answers text (Err Memory) h = tt

text_again : (xs : List PlainLine) → AllByRecursion Fits xs → text_lines (spelling xs) ≡ Ok xs
unfolding text_lines
text_again xs f = ap all_lines (spelled xs f) ∙ lines_again 1 xs f

ok_not_bad : (xs : List PlainLine) (line : ℕ) → good_lines xs ≡ Err (BadLine line) → ⊥
ok_not_bad xs line e = cc

ok_not_rat : (xs : List PlainLine) (line : ℕ) → good_lines xs ≡ Err (RatHint line) → ⊥
ok_not_rat xs line e = cc

pub law_gives : (text : List ℕ) (r : Result (List Line) LratError) → AreRead r (text_lines text) → (xs : List PlainLine) → AllByRecursion Fits xs → text ≡ spelling xs → LratGives xs r
law_gives text (Ok lines) h xs f e = ok_is (map plain lines) xs (sym h ∙ ap text_lines e ∙ text_again xs f)
law_gives text (Err (BadLine line)) h xs f e = ok_not_bad xs line (sym (text_again xs f) ∙ ap text_lines (sym e) ∙ h)
law_gives text (Err (RatHint line)) h xs f e = ok_not_rat xs line (sym (text_again xs f) ∙ ap text_lines (sym e) ∙ h)
law_gives text (Err Memory) h xs f e = tt
