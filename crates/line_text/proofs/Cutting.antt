-- A text is its lines and what stands after them; a line is its words.
use Rattle.std.proofs.Common.{◌≡◌, ℕ, zero, suc, ◌+◌, ◌<◌, ◌≤◌, Bool, true, false, cond, eqb, ltb, List, [], ◌∷◌, ◌++◌, length, map, take, drop, get_or, Option, Some, None, option_map, refl, sym, ap, subst, ◌∙◌, append_assoc, arith, ◌&&◌}
use Rattle.std.specs.List.{slice_split, join_with_byte, flat_map, position_or_len, AllByRecursion}
use Rattle.std.proofs.lemmas.Bool.{eqb-true, ltb-false}
use Rattle.std.proofs.lemmas.List.Sums.{split_at_first, fails_before_first, passes_at_first}
use Rattle.std.proofs.lemmas.List.Splits.{join_with_byte-slice_split}
use Rattle.line_text.specs.Lines.{Line, cut, words, one_of, two_of, onto_line, whole_lines, onto_tail, tail_of, Source, source_of, is_ended, text_of, Lacks, IsWord, IsLine}

abbrev is_byte : ℕ → ℕ → Bool
is_byte byte b = eqb b byte

-- what a cut gives
pub record CutAt (byte : ℕ) (bs before after : List ℕ) : Type 0 where
  pub whole : bs ≡ before ++ (byte ∷ after)
  pub lacks : Lacks byte before

some_is : (p q : List ℕ × List ℕ) → Some p ≡ Some q → p ≡ q
some_is p q e = cc

found : (p : ℕ → Bool) (bs : List ℕ) (b : Bool) (i : ℕ) (x y : List ℕ) → option_map {U = List ℕ × List ℕ} (λ i. (take i bs, drop (i + 1) bs)) (cond b (Some i) None) ≡ Some (x, y) → (b ≡ true) × (take i bs ≡ x) × (drop (i + 1) bs ≡ y)
found p bs true i x y e =
    let q : (take i bs, drop (i + 1) bs) ≡ (x, y) = some_is (take i bs, drop (i + 1) bs) (x, y) e in
    (refl, ap (λ p. p.0) q, ap (λ p. p.1) q)
found p bs false i x y e = absurd cc

missed : (bs : List ℕ) (b : Bool) (i : ℕ) → option_map {U = List ℕ × List ℕ} (λ i. (take i bs, drop (i + 1) bs)) (cond b (Some i) None) ≡ None → b ≡ false
missed bs true i e = absurd cc
missed bs false i e = refl

lacks_front : (p : ℕ → Bool) (n : ℕ) (bs : List ℕ) → ((k : ℕ) → k < n → p (get_or bs k 0) ≡ false) → AllByRecursion (λ b. p b ≡ false) (take n bs)
lacks_front p zero bs h = tt
lacks_front p (suc n) [] h = tt
lacks_front p (suc n) (b ∷ bs) h = (h 0 (omega arith), lacks_front p n bs (λ k lt. h (suc k) (omega arith)))

pub cut_at : (byte : ℕ) (bs before after : List ℕ) → cut byte bs ≡ Some (before, after) → CutAt byte bs before after
cut_at byte bs before after e =
    let p : ℕ → Bool = is_byte byte in
    let n : ℕ = position_or_len p bs in
    let f = found p bs (ltb n (length bs)) n before after e in
    let lt : n < length bs = Rattle.std.proofs.lemmas.Bool.ltb-true n (length bs) f.0 in
    let here : get_or bs n 0 ≡ byte = eqb-true _ _ (passes_at_first p bs 0 lt) in
    let parts : bs ≡ take n bs ++ (get_or bs n 0 ∷ drop (n + 1) bs) = split_at_first p bs 0 lt in
    let front : AllByRecursion (λ b. p b ≡ false) (take n bs) = lacks_front p n bs (λ k l. fails_before_first p bs k 0 l) in
    record {
      whole = parts ∙ ap (λ (b : ℕ). take n bs ++ (b ∷ drop (n + 1) bs)) here ∙ ap (λ (x : List ℕ). x ++ (byte ∷ drop (n + 1) bs)) f.1 ∙ ap (λ (y : List ℕ). before ++ (byte ∷ y)) f.2;
      lacks = subst (λ (x : List ℕ). AllByRecursion (λ b. p b ≡ false) x) f.1 front;
    }

take_all : {A : Type 0} (n : ℕ) (bs : List A) → length bs ≤ n → take n bs ≡ bs
take_all zero [] h = refl
take_all zero (b ∷ bs) h = absurd (omega arith)
take_all (suc n) [] h = refl
take_all (suc n) (b ∷ bs) h = ap (λ x. b ∷ x) (take_all n bs (omega arith))

pub no_cut : (byte : ℕ) (bs : List ℕ) → cut byte bs ≡ None → Lacks byte bs
no_cut byte bs e =
    let p : ℕ → Bool = is_byte byte in
    let n : ℕ = position_or_len p bs in
    let f = missed bs (ltb n (length bs)) n e in
    let le : length bs ≤ n = ltb-false n (length bs) f in
    subst (λ (x : List ℕ). AllByRecursion (λ b. p b ≡ false) x) (take_all n bs le) (lacks_front p n bs (λ k l. fails_before_first p bs k 0 l))

-- what stands before and after a byte is told apart in one way
split_once : (byte : ℕ) (xs ys us vs : List ℕ) → Lacks byte xs → Lacks byte us → xs ++ (byte ∷ ys) ≡ us ++ (byte ∷ vs) → (xs ≡ us) × (ys ≡ vs)
split_once byte [] ys [] vs h k e = (refl, cc)
split_once byte [] ys (u ∷ us) vs h k e =
    let q : byte ≡ u = cc in
    let same : eqb u byte ≡ true = Rattle.std.proofs.lemmas.Bool.eq-eqb u byte (sym q) in
    let f = k.0 in
    absurd cc
split_once byte (x ∷ xs) ys [] vs h k e =
    let q : x ≡ byte = cc in
    let same : eqb x byte ≡ true = Rattle.std.proofs.lemmas.Bool.eq-eqb x byte q in
    let f = h.0 in
    absurd cc
split_once byte (x ∷ xs) ys (u ∷ us) vs h k e =
    let q : x ≡ u = cc in
    let rest : xs ++ (byte ∷ ys) ≡ us ++ (byte ∷ vs) = cc in
    let i = split_once byte xs ys us vs h.1 k.1 rest in
    (ap (λ (b : ℕ). b ∷ xs) q ∙ ap (λ (l : List ℕ). u ∷ l) i.0, i.1)

has_byte : (byte : ℕ) (xs ys : List ℕ) → Lacks byte (xs ++ (byte ∷ ys)) → ⊥
has_byte byte [] ys h =
    let same : eqb byte byte ≡ true = Rattle.std.proofs.lemmas.Bool.eq-eqb byte byte refl in
    let f = h.0 in
    absurd cc
has_byte byte (x ∷ xs) ys h = has_byte byte xs ys h.1

cut_front_by : (byte : ℕ) (xs ys : List ℕ) (o : Option (List ℕ × List ℕ)) → Lacks byte xs → cut byte (xs ++ (byte ∷ ys)) ≡ o → o ≡ Some (xs, ys)
cut_front_by byte xs ys None h e = absurd (has_byte byte xs ys (no_cut byte (xs ++ (byte ∷ ys)) e))
cut_front_by byte xs ys (Some p) h e =
    let c = cut_at byte (xs ++ (byte ∷ ys)) p.0 p.1 e in
    let q = split_once byte xs ys p.0 p.1 h c.lacks c.whole in
    ap (λ (a : List ℕ). Some (a, p.1)) (sym q.0) ∙ ap (λ (b : List ℕ). Some (xs, b)) (sym q.1)

pub cut_front : (byte : ℕ) (xs ys : List ℕ) → Lacks byte xs → cut byte (xs ++ (byte ∷ ys)) ≡ Some (xs, ys)
cut_front byte xs ys h = cut_front_by byte xs ys (cut byte (xs ++ (byte ∷ ys))) h refl

-- ---- words

split_lacks : (byte : ℕ) (bs : List ℕ) → Lacks byte bs → slice_split (is_byte byte) bs ≡ bs ∷ []
split_lacks byte [] h = refl
split_lacks byte (b ∷ bs) h = rw (h.0, split_lacks byte bs h.1) refl

split_front : (byte : ℕ) (bs more : List ℕ) → Lacks byte bs → slice_split (is_byte byte) (bs ++ (byte ∷ more)) ≡ bs ∷ slice_split (is_byte byte) more
split_front byte [] more h = rw (Rattle.std.proofs.lemmas.Bool.eq-eqb byte byte refl) refl
split_front byte (b ∷ bs) more h = rw (h.0, split_front byte bs more h.1) refl

abbrev pub words_of_cut : List ℕ → Option (List ℕ × List ℕ) → Line
words_of_cut bs None = bs ∷ []
words_of_cut bs (Some p) = p.0 ∷ words p.1

words_of : (bs : List ℕ) (o : Option (List ℕ × List ℕ)) → cut 32 bs ≡ o → words bs ≡ words_of_cut bs o
unfolding words
words_of bs None e = split_lacks 32 bs (no_cut 32 bs e)
words_of bs (Some p) e =
    let c = cut_at 32 bs p.0 p.1 e in
    ap (slice_split (is_byte 32)) c.whole ∙ split_front 32 p.0 p.1 c.lacks

pub words_at_cut : (bs : List ℕ) (o : Option (List ℕ × List ℕ)) → o ≡ cut 32 bs → words bs ≡ words_of_cut bs o
words_at_cut bs o e = words_of bs o (sym e)

two_of_cut : (a b : List ℕ) (bs : List ℕ) (o : Option (List ℕ × List ℕ)) → two_of (a ∷ b ∷ words_of_cut bs o) ≡ None
two_of_cut a b bs None = refl
two_of_cut a b bs (Some p) = refl

one_of_cut : (a : List ℕ) (bs : List ℕ) (o : Option (List ℕ × List ℕ)) → one_of (a ∷ words_of_cut bs o) ≡ None
one_of_cut a bs None = refl
one_of_cut a bs (Some p) = refl

pub one_of_more : (a bs : List ℕ) → one_of (a ∷ words bs) ≡ None
one_of_more a bs = rw (words_of bs (cut 32 bs) refl) (one_of_cut a bs (cut 32 bs))

pub two_of_more : (a b bs : List ℕ) → two_of (a ∷ b ∷ words bs) ≡ None
two_of_more a b bs = rw (words_of bs (cut 32 bs) refl) (two_of_cut a b bs (cut 32 bs))

pub join_words : (bs : List ℕ) → join_with_byte 32 (words bs) ≡ bs
unfolding words
join_words bs = join_with_byte-slice_split 32 bs

pub words_join : (ws : Line) → IsLine ws → words (join_with_byte 32 ws) ≡ ws
unfolding words
words_join [] h = absurd (omega arith)
words_join (w ∷ []) h = split_lacks 32 w h.1.0.0
words_join (w ∷ v ∷ ws) h = split_front 32 w (join_with_byte 32 (v ∷ ws)) h.1.0.0 ∙ ap (λ x. w ∷ x) (words_join (v ∷ ws) (omega arith, h.1.1))

-- ---- lines

lines_lacks : (bs : List ℕ) → Lacks 10 bs → whole_lines bs ≡ []
unfolding whole_lines
lines_lacks [] h = refl
lines_lacks (b ∷ bs) h = rw (h.0, lines_lacks bs h.1) refl

tail_lacks : (bs : List ℕ) → Lacks 10 bs → tail_of bs ≡ bs
unfolding tail_of
tail_lacks [] h = refl
tail_lacks (b ∷ bs) h = rw (h.0, lines_lacks bs h.1, tail_lacks bs h.1) refl

pub lines_front : (bs more : List ℕ) → Lacks 10 bs → whole_lines (bs ++ (10 ∷ more)) ≡ bs ∷ whole_lines more
unfolding whole_lines
lines_front [] more h = refl
lines_front (b ∷ bs) more h = rw (h.0, lines_front bs more h.1) refl

pub tail_front : (bs more : List ℕ) → Lacks 10 bs → tail_of (bs ++ (10 ∷ more)) ≡ tail_of more
unfolding tail_of
tail_front [] more h = refl
tail_front (b ∷ bs) more h = rw (h.0, lines_front bs more h.1, tail_front bs more h.1) refl

abbrev pub source_of_cut : ℕ → List ℕ → Option (List ℕ × List ℕ) → Source
source_of_cut n bs None = record { line = n; lines = []; tail = bs }
source_of_cut n bs (Some p) = record { line = n; lines = words p.0 ∷ map words (whole_lines p.1); tail = tail_of p.1 }

source_of_is : (n : ℕ) (bs : List ℕ) (o : Option (List ℕ × List ℕ)) → cut 10 bs ≡ o → source_of n bs ≡ source_of_cut n bs o
source_of_is n bs None e =
    let h = no_cut 10 bs e in
    rw (lines_lacks bs h, tail_lacks bs h) refl
source_of_is n bs (Some p) e =
    let c = cut_at 10 bs p.0 p.1 e in
    ap (source_of n) c.whole ∙ rw (lines_front p.0 p.1 c.lacks, tail_front p.0 p.1 c.lacks) refl

pub lines_at_cut : (n : ℕ) (bs : List ℕ) (o : Option (List ℕ × List ℕ)) → o ≡ cut 10 bs → source_of n bs ≡ source_of_cut n bs o
lines_at_cut n bs o e = source_of_is n bs o (sym e)

abbrev nothing_left : List (List ℕ) → List ℕ → Bool
nothing_left ls t = eqb (length (map words ls)) 0 && eqb (length t) 0

ended_by : (b : ℕ) (ls : List (List ℕ)) (t : List ℕ) → nothing_left (onto_line b ls) (onto_tail b ls t) ≡ false
ended_by b [] t = Rattle.std.proofs.lemmas.Bool.ne_eqb (length (b ∷ t)) 0 (λ e. absurd (omega arith))
ended_by b (l ∷ ls) t = rw (Rattle.std.proofs.lemmas.Bool.ne_eqb (length (map words (l ∷ ls))) 0 (λ e. absurd (omega arith))) refl

ended_cons : (c : Bool) (b : ℕ) (ls : List (List ℕ)) (t : List ℕ) → nothing_left (cond c ([] ∷ ls) (onto_line b ls)) (cond c t (onto_tail b ls t)) ≡ false
ended_cons true b ls t = rw (Rattle.std.proofs.lemmas.Bool.ne_eqb (length (map words ([] ∷ ls))) 0 (λ e. absurd (omega arith))) refl
ended_cons false b ls t = ended_by b ls t

pub is_ended_at : (n : ℕ) (bs : List ℕ) → is_ended (source_of n bs) ≡ eqb (length bs) 0
unfolding whole_lines tail_of
is_ended_at n [] = refl
is_ended_at n (b ∷ bs) = ended_cons (eqb b 10) b (whole_lines bs) (tail_of bs) ∙ sym (Rattle.std.proofs.lemmas.Bool.ne_eqb (length (b ∷ bs)) 0 (λ e. absurd (omega arith)))

-- ---- texts

abbrev pub feeds : List (List ℕ) → List ℕ
feeds ls = flat_map (λ l. l ++ 10 ∷ []) ls

onto_feeds : (b : ℕ) (ls : List (List ℕ)) (t : List ℕ) → feeds (onto_line b ls) ++ onto_tail b ls t ≡ b ∷ (feeds ls ++ t)
onto_feeds b [] t = refl
onto_feeds b (l ∷ ls) t = refl

feeds_cons : (c : Bool) (b : ℕ) (ls : List (List ℕ)) (t : List ℕ) → eqb b 10 ≡ c → feeds (cond c ([] ∷ ls) (onto_line b ls)) ++ cond c t (onto_tail b ls t) ≡ b ∷ (feeds ls ++ t)
feeds_cons true b ls t e = ap (λ x. x ∷ (feeds ls ++ t)) (sym (eqb-true b 10 e))
feeds_cons false b ls t e = onto_feeds b ls t

feeds_lines : (bs : List ℕ) → feeds (whole_lines bs) ++ tail_of bs ≡ bs
unfolding whole_lines tail_of
feeds_lines [] = refl
feeds_lines (b ∷ bs) = feeds_cons (eqb b 10) b (whole_lines bs) (tail_of bs) refl ∙ ap (λ x. b ∷ x) (feeds_lines bs)

pub text_of_words : (ls : List (List ℕ)) → text_of (map words ls) ≡ feeds ls
text_of_words [] = refl
text_of_words (l ∷ ls) = rw (join_words l, text_of_words ls) refl

-- a text is the text of its lines, and what stands after them
pub text_is : (n : ℕ) (bs : List ℕ) → text_of (source_of n bs).lines ++ (source_of n bs).tail ≡ bs
text_is n bs = ap (λ (x : List ℕ). x ++ tail_of bs) (text_of_words (whole_lines bs)) ∙ feeds_lines bs

lacks_append : (byte : ℕ) (xs ys : List ℕ) → Lacks byte xs → Lacks byte ys → Lacks byte (xs ++ ys)
lacks_append byte [] ys p q = q
lacks_append byte (x ∷ xs) ys p q = (p.0, lacks_append byte xs ys p.1 q)

lacks_join : (ws : Line) → AllByRecursion IsWord ws → Lacks 10 (join_with_byte 32 ws)
lacks_join [] h = tt
lacks_join (w ∷ []) h = h.0.1
lacks_join (w ∷ v ∷ ws) h = lacks_append 10 w (32 ∷ join_with_byte 32 (v ∷ ws)) h.0.1 (refl, lacks_join (v ∷ ws) h.1)

-- lines of words are read as they are
pub source_text : (n : ℕ) (ls : List Line) (t : List ℕ) → AllByRecursion IsLine ls → source_of n (text_of ls ++ t) ≡ record { line = n; lines = ls ++ (source_of n t).lines; tail = tail_of t }
source_text n [] t h = refl
source_text n (l ∷ ls) t h =
    let lacks = lacks_join l h.0.1 in
    let e : text_of (l ∷ ls) ++ t ≡ join_with_byte 32 l ++ (10 ∷ (text_of ls ++ t)) = simp append_assoc in
    let rest = source_text n ls t h.1 in
    ap (source_of n) e ∙ rw (lines_front (join_with_byte 32 l) (text_of ls ++ t) lacks, tail_front (join_with_byte 32 l) (text_of ls ++ t) lacks, words_join l h.0) (ap (λ (s : Source). record { line = n; lines = l ∷ s.lines; tail = s.tail }) rest)

lines_lack_by : (c : Bool) (b : ℕ) (ls : List (List ℕ)) → eqb b 10 ≡ c → AllByRecursion (λ l. Lacks 10 l) ls → AllByRecursion (λ l. Lacks 10 l) (cond c ([] ∷ ls) (onto_line b ls))
lines_lack_by true b ls e h = (tt, h)
lines_lack_by false b [] e h = tt
lines_lack_by false b (l ∷ ls) e h = ((e, h.0), h.1)

pub lines_lack : (bs : List ℕ) → AllByRecursion (λ l. Lacks 10 l) (whole_lines bs)
unfolding whole_lines
lines_lack [] = tt
lines_lack (b ∷ bs) = lines_lack_by (eqb b 10) b (whole_lines bs) refl (lines_lack bs)

-- lines with no line feed are read as they are
pub source_feeds : (n : ℕ) (ls : List (List ℕ)) (t : List ℕ) → AllByRecursion (λ l. Lacks 10 l) ls → source_of n (feeds ls ++ t) ≡ record { line = n; lines = map words ls ++ (source_of n t).lines; tail = tail_of t }
source_feeds n [] t h = refl
source_feeds n (l ∷ ls) t h =
    let e : feeds (l ∷ ls) ++ t ≡ l ++ (10 ∷ (feeds ls ++ t)) = simp append_assoc in
    let rest = source_feeds n ls t h.1 in
    ap (source_of n) e ∙ rw (lines_front l (feeds ls ++ t) h.0, tail_front l (feeds ls ++ t) h.0) (ap (λ (s : Source). record { line = n; lines = words l ∷ s.lines; tail = s.tail }) rest)
