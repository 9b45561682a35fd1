-- What a reader of lines makes of a whole text, and where a text is bad.
use Rattle.std.proofs.Common.{◌≡◌, ℕ, zero, suc, ◌+◌, ◌-◌, ◌<◌, ◌≤◌, Bool, true, false, cond, eqb, List, [], ◌∷◌, ◌++◌, length, map, take, Result, Ok, Err, refl, sym, ap, subst, ◌∙◌, append_assoc, arith, ◌⊎◌, inl, inr, length-append}
use Rattle.std.specs.List.{flat_map, AllByRecursion}
use Rattle.std.proofs.lemmas.Bool.{and_parts, eqb-true}
use Rattle.std.proofs.lemmas.List.{append-nil, nil_from_length, take_at}
use Rattle.std.proofs.lemmas.List.Concat.{flat_map-append}
use Rattle.line_text.specs.Lines.{Line, Source, source_of, is_ended, words, whole_lines, tail_of, text_of, line_text, Lacks}
use Rattle.line_text.specs.Reading.{Read, ◌>>=◌}
use Rattle.line_text.specs.Texts.{Begins, first_lines, IsFirstBad, whole_by}
use Rattle.line_text.proofs.Laws.{IsReaderOf, at, bind_ok, bind_err, ok_is}
use Rattle.line_text.proofs.Cutting.{text_is, text_of_words, source_text, source_feeds, lines_lack}

spelled : {X : Type 0} (spell : X → List Line) (F : ℕ → X → Type 0) (read : Source → Read X) → IsReaderOf spell F read → (x : X) → F 1 x → source_of 1 (text_of (spell x)) ≡ at 1 (spell x ++ []) []
unfolding whole_lines tail_of
spelled spell F read law x f = ap (source_of 1) (sym (append-nil (text_of (spell x)))) ∙ source_text 1 (spell x) [] (law.lines 1 x f)

-- ---- what is read

ended_by : (ls : List Line) (t : List ℕ) (n : ℕ) → is_ended (at n ls t) ≡ true → (ls ≡ []) × (t ≡ [])
ended_by ls t n e =
    let p = and_parts (eqb (length ls) 0) (eqb (length t) 0) e in
    (nil_from_length ls (eqb-true _ _ p.0), nil_from_length t (eqb-true _ _ p.1))

guard_ok : {X : Type 0} (b : Bool) (x y : X) (n : ℕ) → cond {A = Result X ℕ} b (Ok x) (Err n) ≡ Ok y → (b ≡ true) × (x ≡ y)
guard_ok true x y n e = (refl, ok_is x y e)
guard_ok false x y n e = absurd cc

guard_err : {X : Type 0} (b : Bool) (x : X) (n m : ℕ) → cond {A = Result X ℕ} b (Ok x) (Err n) ≡ Err m → m ≡ n
guard_err true x n m e = absurd cc
guard_err false x n m e = cc

pub is_read : {X : Type 0} (spell : X → List Line) (F : ℕ → X → Type 0) (read : Source → Read X) → IsReaderOf spell F read → (text : List ℕ) (x : X) → whole_by read text ≡ Ok x → F 1 x × (text ≡ text_of (spell x))
is_read {X} spell F read law text x e =
    let s : Source = source_of 1 text in
    let a = bind_ok (read s) (λ y. cond {A = Result X ℕ} (is_ended y.1) (Ok y.0) (Err y.1.line)) x e in
    let y : X = a.0.0 in
    let g = guard_ok (is_ended a.0.1) y x a.0.1.line a.2 in
    let t = law.takes 1 s.lines s.tail y a.0.1 a.1 in
    let over = ended_by t.rest s.tail (1 + length (spell y)) (ap is_ended (sym t.left_is) ∙ g.0) in
    let whole : text ≡ text_of (spell y) =
    sym (text_is 1 text)
    ∙ ap (λ (z : List ℕ). text_of s.lines ++ z) over.1 ∙ append-nil (text_of s.lines)
    ∙ ap text_of (t.parts ∙ ap (λ (ls : List Line). spell y ++ ls) over.0 ∙ append-nil (spell y)) in
    subst (λ (z : X). F 1 z × (text ≡ text_of (spell z))) g.1 (t.fits, whole)

pub reads : {X : Type 0} (spell : X → List Line) (F : ℕ → X → Type 0) (read : Source → Read X) → IsReaderOf spell F read → (text : List ℕ) (x : X) → F 1 x → text ≡ text_of (spell x) → whole_by read text ≡ Ok x
reads {X} spell F read law text x f e =
    ap (whole_by read) e
    ∙ ap (λ (s : Source). read s >>= λ y. cond {A = Result X ℕ} (is_ended y.1) (Ok y.0) (Err y.1.line)) (spelled spell F read law x f)
    ∙ ap (λ (r : Read X). r >>= λ y. cond {A = Result X ℕ} (is_ended y.1) (Ok y.0) (Err y.1.line)) (law.again 1 x [] [] f)

-- a text spells at most one value
pub one_value : {X : Type 0} (spell : X → List Line) (F : ℕ → X → Type 0) (read : Source → Read X) → IsReaderOf spell F read → (x y : X) → F 1 x → F 1 y → text_of (spell x) ≡ text_of (spell y) → x ≡ y
one_value spell F read law x y f g e = ok_is x y (sym (reads spell F read law (text_of (spell x)) x f refl) ∙ reads spell F read law (text_of (spell x)) y g e)

-- ---- where a text is bad

record Bad {X : Type 0} (spell : X → List Line) (F : ℕ → X → Type 0) (ls : List Line) (m : ℕ) : Type 0 where
  good : List Line
  left : List Line
  parts : ls ≡ good ++ left
  place : m ≡ 1 + length good
  value : X
  fits : F 1 value
  more : List Line
  whole : spell value ≡ good ++ more
  refused : (bad : Line) (others rest : List Line) → left ≡ bad ∷ others → (x : X) → F 1 x → spell x ≡ good ++ bad ∷ rest → ⊥

abbrev failed : {X : Type 0} → ℕ → Read X
failed m = Err m

abbrev given : {X : Type 0} → X → Source → Read X
given x s = Ok (x, s)

ok_not_err : {X : Type 0} (x : X) (s : Source) (m : ℕ) → given x s ≡ failed m → ⊥
ok_not_err x s m e = cc

two_rests : {X : Type 0} (x y : X) (m n : ℕ) (bad : Line) (rest : List Line) → given x (at m [] []) ≡ given y (at n (bad ∷ rest) []) → ⊥
two_rests {X} x y m n bad rest e =
    let one : X × Source = (x, at m [] []) in
    let two : X × Source = (y, at n (bad ∷ rest) []) in
    let q : [] ≡ bad ∷ rest = ap (λ (p : X × Source). p.1.lines) (ok_is one two e) in
    cc

bad_by : {X : Type 0} (spell : X → List Line) (F : ℕ → X → Type 0) (read : Source → Read X) → IsReaderOf spell F read → (ls : List Line) (t : List ℕ) (m : ℕ)
    → (read (at 1 ls t) ≡ Err m) ⊎ ((y : X × Source) × (read (at 1 ls t) ≡ Ok y) × (cond {A = Result X ℕ} (is_ended y.1) (Ok y.0) (Err y.1.line) ≡ Err m)) → Bad spell F ls m
bad_by {X} spell F read law ls t m (inl e) =
    let s = law.stops 1 ls t m e in
    record {
      good = s.good;
      left = s.left;
      parts = s.parts;
      place = s.place;
      value = s.value;
      fits = s.fits;
      more = s.more;
      whole = s.whole;
      refused = λ bad others rest w x f h.
          ok_not_err x (at (1 + length (spell x)) [] []) m (sym (law.again 1 x [] [] f) ∙ ap (λ (l : List Line). read (at 1 l [])) (append-nil (spell x) ∙ h) ∙ s.refused bad others rest [] w);
    }
bad_by {X} spell F read law ls t m (inr b) =
    let y : X = b.0.0 in
    let a = law.takes 1 ls t y b.0.1 b.1 in
    record {
      good = spell y;
      left = a.rest;
      parts = a.parts;
      place = guard_err (is_ended b.0.1) y b.0.1.line m b.2 ∙ ap (λ (s : Source). s.line) a.left_is;
      value = y;
      fits = a.fits;
      more = [];
      whole = sym (append-nil (spell y));
      refused = λ bad others rest w x f h.
          two_rests x y (1 + length (spell x)) (1 + length (spell y)) bad rest (sym (law.again 1 x [] [] f) ∙ ap (λ (l : List Line). read (at 1 l [])) (append-nil (spell x) ∙ h) ∙ law.again 1 y (bad ∷ rest) [] a.fits);
    }

map_length : (ls : List (List ℕ)) → length (map words ls) ≡ length ls
map_length [] = refl
map_length (l ∷ ls) = ap suc (map_length ls)

all_take : {A : Type 0} (P : A → Type 0) (k : ℕ) (xs : List A) → AllByRecursion P xs → AllByRecursion P (take k xs)
all_take P zero xs h = tt
all_take P (suc k) [] h = tt
all_take P (suc k) (x ∷ xs) h = (h.0, all_take P k xs h.1)

text_append : (xs ys : List Line) → text_of (xs ++ ys) ≡ text_of xs ++ text_of ys
text_append xs ys = flat_map-append line_text xs ys

take_map : (k : ℕ) (ls : List (List ℕ)) → take k (map words ls) ≡ map words (take k ls)
take_map zero ls = refl
take_map (suc k) [] = refl
take_map (suc k) (l ∷ ls) = ap (λ (x : List Line). words l ∷ x) (take_map k ls)

abbrev told : {X : Type 0} → X → Result X ℕ
told x = Ok x

never_both : {X : Type 0} (x : X) (m : ℕ) → told x ≡ Err m → ⊥
never_both x m e = cc

-- the first lines of a text are those that were read
front_is : (text : List ℕ) (good left : List Line) → map words (whole_lines text) ≡ good ++ left → map words (take (length good) (whole_lines text)) ≡ good
front_is text good left e = sym (take_map (length good) (whole_lines text)) ∙ ap (take (length good)) e ∙ take_at good left (length good) refl

not_begun : {X : Type 0} (spell : X → List Line) (F : ℕ → X → Type 0) (read : Source → Read X) → IsReaderOf spell F read → (text : List ℕ) (good others : List Line) (bad : Line) → map words (whole_lines text) ≡ good ++ bad ∷ others
    → ((rest : List Line) (x : X) → F 1 x → spell x ≡ good ++ bad ∷ rest → ⊥) → Begins spell (F 1) (first_lines (1 + length good) text) → ⊥
not_begun {X} spell F read law text good others bad e clash b =
    let x : X = b.0 in
    let k : ℕ = 1 + length good in
    let ls : List (List ℕ) = take k (whole_lines text) in
    let longer : map words (whole_lines text) ≡ (good ++ bad ∷ []) ++ others = e ∙ sym (append_assoc good (bad ∷ []) others) in
    let len : length (good ++ bad ∷ []) ≡ k = omega (arith, length-append good (bad ∷ [])) in
    let front : map words ls ≡ good ++ bad ∷ [] = subst (λ (j : ℕ). map words (take j (whole_lines text)) ≡ good ++ bad ∷ []) len (front_is text (good ++ bad ∷ []) others longer) in
    let lack = all_take (λ l. Lacks 10 l) k (whole_lines text) (lines_lack text) in
    let sources : at 1 (spell x ++ []) [] ≡ at 1 (map words ls ++ (source_of 1 b.1).lines) (tail_of b.1) = sym (spelled spell F read law x b.2) ∙ ap (source_of 1) b.3 ∙ source_feeds 1 ls b.1 lack in
    let lines : spell x ≡ good ++ bad ∷ (source_of 1 b.1).lines =
    sym (append-nil (spell x)) ∙ ap (λ (s : Source). s.lines) sources ∙ ap (λ (l : List Line). l ++ (source_of 1 b.1).lines) front ∙ append_assoc good (bad ∷ []) (source_of 1 b.1).lines in
    clash (source_of 1 b.1).lines x b.2 lines

refused_by : {X : Type 0} (spell : X → List Line) (F : ℕ → X → Type 0) (read : Source → Read X) → IsReaderOf spell F read → (text : List ℕ) (good left : List Line) → map words (whole_lines text) ≡ good ++ left
    → ((bad : Line) (others rest : List Line) → left ≡ bad ∷ others → (x : X) → F 1 x → spell x ≡ good ++ bad ∷ rest → ⊥)
    → 1 + length good ≤ length (whole_lines text) → Begins spell (F 1) (first_lines (1 + length good) text) → ⊥
refused_by spell F read law text good [] e clash le b = absurd (omega (arith, ap length e, map_length (whole_lines text), length-append good [], le))
refused_by spell F read law text good (bad ∷ others) e clash le b = not_begun spell F read law text good others bad e (λ rest x f h. clash bad others rest refl x f h) b

pub is_bad : {X : Type 0} (spell : X → List Line) (F : ℕ → X → Type 0) (read : Source → Read X) → IsReaderOf spell F read → (text : List ℕ) (m : ℕ) → whole_by read text ≡ Err m → IsFirstBad spell (F 1) text m
is_bad {X} spell F read law text m e =
    let s : Source = source_of 1 text in
    let a = bad_by spell F read law s.lines s.tail m (bind_err (read s) (λ y. cond {A = Result X ℕ} (is_ended y.1) (Ok y.0) (Err y.1.line)) m e) in
    let p : m ≡ 1 + length a.good = a.place in
    let before : first_lines (length a.good) text ≡ text_of a.good = sym (text_of_words (take (length a.good) (whole_lines text))) ∙ ap text_of (front_is text a.good a.left a.parts) in
    let begins : Begins spell (F 1) (first_lines (length a.good) text) = (a.value, text_of a.more, a.fits, ap text_of a.whole ∙ text_append a.good a.more ∙ ap (λ (x : List ℕ). x ++ text_of a.more) (sym before)) in
    let k : length a.good ≡ m - 1 = omega arith in
    record {
      low = omega arith;
      high = omega (arith, ap length a.parts, map_length (whole_lines text), length-append a.good a.left);
      before = subst (λ (j : ℕ). Begins spell (F 1) (first_lines j text)) k begins;
      refused = subst (λ (j : ℕ). j ≤ length (whole_lines text) → Begins spell (F 1) (first_lines j text) → ⊥) (sym p) (refused_by spell F read law text a.good a.left a.parts a.refused);
      never = λ x f h. never_both x m (sym (reads spell F read law text x f h) ∙ e);
    }

-- ---- one first bad line

feeds_split : (k m : ℕ) (ls : List (List ℕ)) → k ≤ m → (rest : List ℕ) × (flat_map (λ l. l ++ 10 ∷ []) (take m ls) ≡ flat_map (λ l. l ++ 10 ∷ []) (take k ls) ++ rest)
feeds_split zero m ls le = (flat_map (λ l. l ++ 10 ∷ []) (take m ls), refl)
feeds_split (suc k) zero ls le = absurd (omega (arith, le))
feeds_split (suc k) (suc m) [] le = ([], refl)
feeds_split (suc k) (suc m) (l ∷ ls) le =
    let i = feeds_split k m ls (omega (arith, le)) in
    (i.0, ap (λ (x : List ℕ). (l ++ 10 ∷ []) ++ x) i.1 ∙ sym (append_assoc (l ++ 10 ∷ []) (flat_map (λ l. l ++ 10 ∷ []) (take k ls)) i.0))

-- fewer lines begin what more lines begin
begins_less : {X : Type 0} (spell : X → List Line) (Fits : X → Type 0) (text : List ℕ) (k m : ℕ) → k ≤ m → Begins spell Fits (first_lines m text) → Begins spell Fits (first_lines k text)
begins_less spell Fits text k m le b =
    let s = feeds_split k m (whole_lines text) le in
    (b.0, s.0 ++ b.1, b.2, b.3 ∙ ap (λ (x : List ℕ). x ++ b.1) s.1 ∙ append_assoc (first_lines k text) s.0 b.1)

not_less : {X : Type 0} (spell : X → List Line) (Fits : X → Type 0) (text : List ℕ) (m n : ℕ) → IsFirstBad spell Fits text m → IsFirstBad spell Fits text n → m < n → ⊥
not_less spell Fits text m n a b lt = a.refused (omega (arith, lt, b.high)) (begins_less spell Fits text m (n - 1) (omega (arith, lt)) b.before)

pub one_bad_line : {X : Type 0} (spell : X → List Line) (Fits : X → Type 0) (text : List ℕ) (m n : ℕ) → IsFirstBad spell Fits text m → IsFirstBad spell Fits text n → m ≡ n
one_bad_line spell Fits text m n a b = omega (arith, not_less spell Fits text m n a b, not_less spell Fits text n m b a)
