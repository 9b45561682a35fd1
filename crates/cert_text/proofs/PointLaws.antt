-- A line passes the test for the name of a point exactly where it names one.
use Rattle.std.proofs.Common.{◌≡◌, ℕ, ◌^◌, ◌<◌, ◌≤◌, Bool, true, false, cond, eqb, List, [], ◌∷◌, ◌++◌, Option, Some, None, refl, sym, ap, subst, ◌∙◌, arith, lit<, ◌⊎◌, inl, inr, decimal, codes, ◌&&◌, ◌||◌, is_some}
use Rattle.std.specs.Str.{bytes_eq}
use Rattle.std.specs.List.{join_with_byte}
use Rattle.std.proofs.lemmas.Bool.{eqb-true, ltb-true, and_parts, and_from}
use Rattle.line_text.specs.Lines.{Line, cut, words, three_of, IsWord, IsLine}
use Rattle.line_text.specs.Number.{number_of}
use Rattle.line_text.specs.Reading.{line_by}
use Rattle.line_text.proofs.Cutting.{cut_at, cut_front, join_words, words_join}
use Rattle.line_text.proofs.Laws.{IsLineOf, IsReaderOf, law_line, some_is}
use Rattle.line_text.proofs.Numerals.{number_takes, number_again, number_word, number_lacks}
use Rattle.line_text.proofs.Words.{chosen, map_some, same_bytes, bytes_same, three_is, word_from, lacks_append}
use Rattle.cert_text.specs.Points.{is_name, IsName, IsOrdinal, IsPoint}
use Rattle.cert_text.specs.Points.IsPoint.{statement, then_arm, else_arm, item_arm, default_arm, all_operands, only_operand, rise, fall, arc}
use Rattle.cert_text.specs.Tests.{four_of, five_of, is_number, is_above_zero, is_positive, is_ordinal, are_states, is_arc, is_change, is_plain, three_fit, is_three, is_branch, is_arm, four_fit, is_four, is_numbered, five_fit, is_five, is_point}
use Rattle.cert_text.specs.Certs.{point_of}
use Rattle.cert_text.proofs.Names.{name_word}

abbrev most : ℕ
most = 9223372036854775807

abbrev most_wide : ℕ
most_wide = 340282366920938463463374607431768211455

either : (a b : Bool) → (a || b) ≡ true → (a ≡ true) ⊎ (b ≡ true)
either true b e = inl refl
either false b e = inr e

or_first : (a b : Bool) → a ≡ true → (a || b) ≡ true
or_first a b e = ap (λ (t : Bool). t || b) e

-- ---- numbers

some_from : (o : Option ℕ) → is_some o ≡ true → (n : ℕ) × (o ≡ Some n)
some_from None e = absurd cc
some_from (Some n) e = (n, refl)

above_from : (o : Option ℕ) → is_above_zero o ≡ true → (n : ℕ) × (o ≡ Some n) × (0 < n)
above_from None e = absurd cc
above_from (Some n) e = (n, refl, ltb-true 0 n e)

number_is : (max : ℕ) (w : List ℕ) → max < 10 ^ 64 → is_number max w ≡ true → (n : ℕ) × (n ≤ max) × (w ≡ decimal n)
number_is max w lt e =
    let s = some_from (number_of max w) e in
    let t = number_takes max w s.0 lt s.1 in
    (s.0, t.1, t.0)

number_tested : (max n : ℕ) → max < 10 ^ 64 → n ≤ max → is_number max (decimal n) ≡ true
number_tested max n lt le = ap is_some (number_again max n lt le)

ordinal_is : (w : List ℕ) → is_ordinal w ≡ true → IsOrdinal w
ordinal_is [] e = absurd cc
ordinal_is (b ∷ bs) e =
    let p = and_parts (eqb b 35) (is_number most bs) e in
    let n = number_is most bs (lit< tt) p.1 in
    (n.0, omega (arith, n.1), ap (λ (x : ℕ). x ∷ bs) (eqb-true b 35 p.0) ∙ ap (λ (x : List ℕ). 35 ∷ x) n.2)

ordinal_tested : (w : List ℕ) → IsOrdinal w → is_ordinal w ≡ true
ordinal_tested w o = ap is_ordinal o.2 ∙ number_tested most o.0 (lit< tt) (omega (arith, o.1))

hash_word : (n : ℕ) → n < 10 ^ 64 → IsWord (35 ∷ decimal n)
hash_word n lt = let w = number_word n lt in ((refl, w.0), (refl, w.1))

ordinal_word : (w : List ℕ) → IsOrdinal w → IsWord w
ordinal_word w o = subst IsWord (sym o.2) (hash_word o.0 (omega (arith, o.1)))

-- ---- arcs

abbrev arc_word : ℕ → ℕ → List ℕ
arc_word v w = decimal v ++ (62 ∷ decimal w)

record Arc (word : List ℕ) : Type 0 where
  from : ℕ
  to : ℕ
  from_fits : from ≤ most_wide
  to_fits : to ≤ most_wide
  word_is : word ≡ arc_word from to

arc_by : (word : List ℕ) (o : Option (List ℕ × List ℕ)) → cut 62 word ≡ o → are_states o ≡ true → Arc word
arc_by word None e h = absurd cc
arc_by word (Some p) e h =
    let t = and_parts (is_number most_wide p.0) (is_number most_wide p.1) h in
    let v = number_is most_wide p.0 (lit< tt) t.0 in
    let w = number_is most_wide p.1 (lit< tt) t.1 in
    let c = cut_at 62 word p.0 p.1 e in
    record {
      from = v.0;
      to = w.0;
      from_fits = v.1;
      to_fits = w.1;
      word_is = c.whole ∙ ap (λ (x : List ℕ). x ++ (62 ∷ p.1)) v.2 ∙ ap (λ (x : List ℕ). decimal v.0 ++ (62 ∷ x)) w.2;
    }

arc_is : (word : List ℕ) → is_arc word ≡ true → Arc word
arc_is word e = arc_by word (cut 62 word) refl e

arc_tested : (v w : ℕ) → v ≤ most_wide → w ≤ most_wide → is_arc (arc_word v w) ≡ true
arc_tested v w a b =
    ap are_states (cut_front 62 (decimal v) (decimal w) (number_lacks 62 (inr (omega arith)) v (omega (arith, a))))
    ∙ and_from (is_number most_wide (decimal v)) (is_number most_wide (decimal w)) (number_tested most_wide v (lit< tt) a) (number_tested most_wide w (lit< tt) b)

arc_is_word : (v w : ℕ) → v ≤ most_wide → w ≤ most_wide → IsWord (arc_word v w)
arc_is_word v w a b =
    let x = number_word v (omega (arith, a)) in
    let y = number_word w (omega (arith, b)) in
    (lacks_append 32 (decimal v) (62 ∷ decimal w) x.0 (refl, y.0), lacks_append 10 (decimal v) (62 ∷ decimal w) x.1 (refl, y.1))

-- ---- what passes names a point

abbrev three : List ℕ → List ℕ → List ℕ → Line
three a b c = a ∷ b ∷ c ∷ []

abbrev four : List ℕ → List ℕ → List ℕ → List ℕ → Line
four a b c d = a ∷ b ∷ c ∷ d ∷ []

abbrev five : List ℕ → List ℕ → List ℕ → List ℕ → List ℕ → Line
five a b c d e = a ∷ b ∷ c ∷ d ∷ e ∷ []

change_is : (name detail : List ℕ) → IsName name → (bytes_eq detail (codes "rise") ≡ true) ⊎ (bytes_eq detail (codes "fall") ≡ true) → IsPoint (three (codes "T") name detail)
change_is name detail n (inl e) = subst (λ (d : List ℕ). IsPoint (three (codes "T") name d)) (sym (same_bytes detail (codes "rise") e)) (rise name n)
change_is name detail n (inr e) = subst (λ (d : List ℕ). IsPoint (three (codes "T") name d)) (sym (same_bytes detail (codes "fall") e)) (fall name n)

arc_point : (name detail : List ℕ) → IsName name → Arc detail → IsPoint (three (codes "F") name detail)
arc_point name detail n a = subst (λ (d : List ℕ). IsPoint (three (codes "F") name d)) (sym a.word_is) (arc name a.from a.to n (omega (arith, a.from_fits)) (omega (arith, a.to_fits)))

plain_by : (kind name detail : List ℕ) (s t f : Bool) → bytes_eq kind (codes "S") ≡ s → bytes_eq kind (codes "T") ≡ t → bytes_eq kind (codes "F") ≡ f → IsName name
    → cond s (is_ordinal detail) (cond t (is_change detail) (cond f (is_arc detail) false)) ≡ true → IsPoint (three kind name detail)
plain_by kind name detail true t f ks kt kf n e = subst (λ (k : List ℕ). IsPoint (three k name detail)) (sym (same_bytes kind (codes "S") ks)) (statement name detail n (ordinal_is detail e))
plain_by kind name detail false true f ks kt kf n e = subst (λ (k : List ℕ). IsPoint (three k name detail)) (sym (same_bytes kind (codes "T") kt)) (change_is name detail n (either (bytes_eq detail (codes "rise")) (bytes_eq detail (codes "fall")) e))
plain_by kind name detail false false true ks kt kf n e = subst (λ (k : List ℕ). IsPoint (three k name detail)) (sym (same_bytes kind (codes "F") kf)) (arc_point name detail n (arc_is detail e))
plain_by kind name detail false false false ks kt kf n e = absurd cc

three_by : (l : Line) (o : Option (List ℕ × List ℕ × List ℕ)) → three_of l ≡ o → three_fit o ≡ true → IsPoint l
three_by l None e h = absurd cc
three_by l (Some p) e h =
    let t = and_parts (is_name p.1) (is_plain p.0 p.2) h in
    subst IsPoint (sym (three_is l p e)) (plain_by p.0 p.1 p.2 (bytes_eq p.0 (codes "S")) (bytes_eq p.0 (codes "T")) (bytes_eq p.0 (codes "F")) refl refl refl t.0 t.1)

branch_is : (name ordinal arm : List ℕ) → IsName name → IsOrdinal ordinal → ((bytes_eq arm (codes "then") || bytes_eq arm (codes "else")) ≡ true) ⊎ (bytes_eq arm (codes "default") ≡ true) → IsPoint (four (codes "B") name ordinal arm)
branch_is name ordinal arm n o (inl e) = first_arm (either (bytes_eq arm (codes "then")) (bytes_eq arm (codes "else")) e)
  where
    first_arm : (bytes_eq arm (codes "then") ≡ true) ⊎ (bytes_eq arm (codes "else") ≡ true) → IsPoint (four (codes "B") name ordinal arm)
    first_arm (inl h) = subst (λ (a : List ℕ). IsPoint (four (codes "B") name ordinal a)) (sym (same_bytes arm (codes "then") h)) (then_arm name ordinal n o)
    first_arm (inr h) = subst (λ (a : List ℕ). IsPoint (four (codes "B") name ordinal a)) (sym (same_bytes arm (codes "else") h)) (else_arm name ordinal n o)
branch_is name ordinal arm n o (inr e) = subst (λ (a : List ℕ). IsPoint (four (codes "B") name ordinal a)) (sym (same_bytes arm (codes "default") e)) (default_arm name ordinal n o)

arm_by : (kind name ordinal arm : List ℕ) (b r : Bool) → bytes_eq kind (codes "B") ≡ b → bytes_eq kind (codes "R") ≡ r → IsName name → IsOrdinal ordinal
    → cond b (is_branch arm) (cond r (bytes_eq arm (codes "all")) false) ≡ true → IsPoint (four kind name ordinal arm)
arm_by kind name ordinal arm true r kb kr n o e = subst (λ (k : List ℕ). IsPoint (four k name ordinal arm)) (sym (same_bytes kind (codes "B") kb)) (branch_is name ordinal arm n o (either (bytes_eq arm (codes "then") || bytes_eq arm (codes "else")) (bytes_eq arm (codes "default")) e))
arm_by kind name ordinal arm false true kb kr n o e =
    subst (λ (k : List ℕ). IsPoint (four k name ordinal arm)) (sym (same_bytes kind (codes "R") kr)) (subst (λ (a : List ℕ). IsPoint (four (codes "R") name ordinal a)) (sym (same_bytes arm (codes "all") e)) (all_operands name ordinal n o))
arm_by kind name ordinal arm false false kb kr n o e = absurd cc

pub four_is : (l : Line) (p : List ℕ × List ℕ × List ℕ × List ℕ) → four_of l ≡ Some p → l ≡ four p.0 p.1 p.2 p.3
four_is [] p e = absurd cc
four_is (a ∷ ws) p e =
    let m = map_some {B = List ℕ × List ℕ × List ℕ × List ℕ} (λ q. (a, q.0, q.1, q.2)) (three_of ws) p e in
    ap (λ (x : Line). a ∷ x) (three_is ws m.0 m.1) ∙ ap (λ (q : List ℕ × List ℕ × List ℕ × List ℕ). four q.0 q.1 q.2 q.3) m.2

five_is : (l : Line) (p : List ℕ × List ℕ × List ℕ × List ℕ × List ℕ) → five_of l ≡ Some p → l ≡ five p.0 p.1 p.2 p.3 p.4
five_is [] p e = absurd cc
five_is (a ∷ ws) p e =
    let m = map_some {B = List ℕ × List ℕ × List ℕ × List ℕ × List ℕ} (λ q. (a, q.0, q.1, q.2, q.3)) (four_of ws) p e in
    ap (λ (x : Line). a ∷ x) (four_is ws m.0 m.1) ∙ ap (λ (q : List ℕ × List ℕ × List ℕ × List ℕ × List ℕ). five q.0 q.1 q.2 q.3 q.4) m.2

four_by : (l : Line) (o : Option (List ℕ × List ℕ × List ℕ × List ℕ)) → four_of l ≡ o → four_fit o ≡ true → IsPoint l
four_by l None e h = absurd cc
four_by l (Some p) e h =
    let t = and_parts (is_name p.1 && is_ordinal p.2) (is_arm p.0 p.3) h in
    let u = and_parts (is_name p.1) (is_ordinal p.2) t.0 in
    subst IsPoint (sym (four_is l p e)) (arm_by p.0 p.1 p.2 p.3 (bytes_eq p.0 (codes "B")) (bytes_eq p.0 (codes "R")) refl refl u.0 (ordinal_is p.2 u.1) t.1)

item_is : (name ordinal arm n : List ℕ) → IsName name → IsOrdinal ordinal → (bytes_eq arm (codes "item") && is_number most n) ≡ true → IsPoint (five (codes "B") name ordinal arm n)
item_is name ordinal arm n h o e =
    let t = and_parts (bytes_eq arm (codes "item")) (is_number most n) e in
    let k = number_is most n (lit< tt) t.1 in
    subst (λ (a : List ℕ). IsPoint (five (codes "B") name ordinal a n)) (sym (same_bytes arm (codes "item") t.0)) (item_arm name ordinal n h o (k.0, omega (arith, k.1), k.2))

only_is : (name ordinal arm n : List ℕ) → IsName name → IsOrdinal ordinal → (bytes_eq arm (codes "only") && is_positive most n) ≡ true → IsPoint (five (codes "R") name ordinal arm n)
only_is name ordinal arm n h o e =
    let t = and_parts (bytes_eq arm (codes "only")) (is_positive most n) e in
    let a = above_from (number_of most n) t.1 in
    let k = number_takes most n a.0 (lit< tt) a.1 in
    let made : IsPoint (five (codes "R") name ordinal (codes "only") (decimal a.0)) = only_operand name ordinal a.0 h o a.2 (omega (arith, k.1)) in
    let worded = subst (λ (w : List ℕ). IsPoint (five (codes "R") name ordinal (codes "only") w)) (sym k.0) made in
    subst (λ (w : List ℕ). IsPoint (five (codes "R") name ordinal w n)) (sym (same_bytes arm (codes "only") t.0)) worded

numbered_by : (kind name ordinal arm k : List ℕ) (b r : Bool) → bytes_eq kind (codes "B") ≡ b → bytes_eq kind (codes "R") ≡ r → IsName name → IsOrdinal ordinal
    → cond b (bytes_eq arm (codes "item") && is_number most k) (cond r (bytes_eq arm (codes "only") && is_positive most k) false) ≡ true → IsPoint (five kind name ordinal arm k)
numbered_by kind name ordinal arm k true r kb kr n o e = subst (λ (x : List ℕ). IsPoint (five x name ordinal arm k)) (sym (same_bytes kind (codes "B") kb)) (item_is name ordinal arm k n o e)
numbered_by kind name ordinal arm k false true kb kr n o e = subst (λ (x : List ℕ). IsPoint (five x name ordinal arm k)) (sym (same_bytes kind (codes "R") kr)) (only_is name ordinal arm k n o e)
numbered_by kind name ordinal arm k false false kb kr n o e = absurd cc

five_by : (l : Line) (o : Option (List ℕ × List ℕ × List ℕ × List ℕ × List ℕ)) → five_of l ≡ o → five_fit o ≡ true → IsPoint l
five_by l None e h = absurd cc
five_by l (Some p) e h =
    let t = and_parts (is_name p.1 && is_ordinal p.2) (is_numbered p.0 p.3 p.4) h in
    let u = and_parts (is_name p.1) (is_ordinal p.2) t.0 in
    subst IsPoint (sym (five_is l p e)) (numbered_by p.0 p.1 p.2 p.3 p.4 (bytes_eq p.0 (codes "B")) (bytes_eq p.0 (codes "R")) refl refl u.0 (ordinal_is p.2 u.1) t.1)

longer_by : (l : Line) → ((is_three l || is_four l) ≡ true) ⊎ (is_five l ≡ true) → IsPoint l
longer_by l (inr e) = five_by l (five_of l) refl e
longer_by l (inl e) = shorter (either (is_three l) (is_four l) e)
  where
    shorter : (is_three l ≡ true) ⊎ (is_four l ≡ true) → IsPoint l
    shorter (inl h) = three_by l (three_of l) refl h
    shorter (inr h) = four_by l (four_of l) refl h

point_is : (l : Line) → is_point l ≡ true → IsPoint l
point_is l e = longer_by l (either (is_three l || is_four l) (is_five l) e)

-- ---- what names a point passes

three_passes : (kind name detail : List ℕ) → IsName name → is_plain kind detail ≡ true → is_point (three kind name detail) ≡ true
three_passes kind name detail n e =
    or_first ((is_name name && is_plain kind detail) || false) false (or_first (is_name name && is_plain kind detail) false (and_from (is_name name) (is_plain kind detail) n e))

four_passes : (kind name ordinal arm : List ℕ) → IsName name → IsOrdinal ordinal → is_arm kind arm ≡ true → is_point (four kind name ordinal arm) ≡ true
four_passes kind name ordinal arm n o e =
    or_first (is_name name && is_ordinal ordinal && is_arm kind arm) false
    (and_from (is_name name && is_ordinal ordinal) (is_arm kind arm) (and_from (is_name name) (is_ordinal ordinal) n (ordinal_tested ordinal o)) e)

five_passes : (kind name ordinal arm k : List ℕ) → IsName name → IsOrdinal ordinal → is_numbered kind arm k ≡ true → is_point (five kind name ordinal arm k) ≡ true
five_passes kind name ordinal arm k n o e =
    and_from (is_name name && is_ordinal ordinal) (is_numbered kind arm k) (and_from (is_name name) (is_ordinal ordinal) n (ordinal_tested ordinal o)) e

positive_tested : (k : ℕ) → 0 < k → k ≤ most → is_positive most (decimal k) ≡ true
positive_tested k low high = ap is_above_zero (number_again most k (lit< tt) high) ∙ Rattle.std.proofs.lemmas.Bool.lt-ltb 0 k low

passes : (l : Line) → IsPoint l → is_point l ≡ true
passes _ (statement path ordinal n o) = three_passes (codes "S") path ordinal n (ordinal_tested ordinal o)
passes _ (then_arm path ordinal n o) = four_passes (codes "B") path ordinal (codes "then") n o refl
passes _ (else_arm path ordinal n o) = four_passes (codes "B") path ordinal (codes "else") n o refl
passes _ (item_arm path ordinal item n o k) = five_passes (codes "B") path ordinal (codes "item") item n o (ap (is_number most) k.2 ∙ number_tested most k.0 (lit< tt) (omega (arith, k.1)))
passes _ (default_arm path ordinal n o) = four_passes (codes "B") path ordinal (codes "default") n o refl
passes _ (all_operands path ordinal n o) = four_passes (codes "R") path ordinal (codes "all") n o refl
passes _ (only_operand path ordinal k n o low high) = five_passes (codes "R") path ordinal (codes "only") (decimal k) n o (positive_tested k low (omega (arith, high)))
passes _ (rise bit n) = three_passes (codes "T") bit (codes "rise") n refl
passes _ (fall bit n) = three_passes (codes "T") bit (codes "fall") n refl
passes _ (arc register v w n a b) = three_passes (codes "F") register (arc_word v w) n (arc_tested v w (omega (arith, a)) (omega (arith, b)))

abbrev keyword : (w : List ℕ) → Rattle.std.specs.List.list_all Rattle.line_text.proofs.Words.is_clean w ≡ true → IsWord w
keyword w e = word_from w e

clean : (l : Line) → IsPoint l → IsLine l
clean _ (statement path ordinal n o) = (omega arith, (keyword (codes "S") refl, (name_word path n, (ordinal_word ordinal o, tt))))
clean _ (then_arm path ordinal n o) = (omega arith, (keyword (codes "B") refl, (name_word path n, (ordinal_word ordinal o, (keyword (codes "then") refl, tt)))))
clean _ (else_arm path ordinal n o) = (omega arith, (keyword (codes "B") refl, (name_word path n, (ordinal_word ordinal o, (keyword (codes "else") refl, tt)))))
clean _ (item_arm path ordinal item n o k) = (omega arith, (keyword (codes "B") refl, (name_word path n, (ordinal_word ordinal o, (keyword (codes "item") refl, (subst IsWord (sym k.2) (number_word k.0 (omega (arith, k.1))), tt))))))
clean _ (default_arm path ordinal n o) = (omega arith, (keyword (codes "B") refl, (name_word path n, (ordinal_word ordinal o, (keyword (codes "default") refl, tt)))))
clean _ (all_operands path ordinal n o) = (omega arith, (keyword (codes "R") refl, (name_word path n, (ordinal_word ordinal o, (keyword (codes "all") refl, tt)))))
clean _ (only_operand path ordinal k n o low high) = (omega arith, (keyword (codes "R") refl, (name_word path n, (ordinal_word ordinal o, (keyword (codes "only") refl, (number_word k (omega (arith, high)), tt))))))
clean _ (rise bit n) = (omega arith, (keyword (codes "T") refl, (name_word bit n, (keyword (codes "rise") refl, tt))))
clean _ (fall bit n) = (omega arith, (keyword (codes "T") refl, (name_word bit n, (keyword (codes "fall") refl, tt))))
clean _ (arc register v w n a b) = (omega arith, (keyword (codes "F") refl, (name_word register n, (arc_is_word v w (omega (arith, a)) (omega (arith, b)), tt))))

-- ---- the text of a point's line

abbrev pub IsPointText : List ℕ → Type 0
IsPointText text = IsPoint (words text)

law_point : IsLineOf words IsPointText point_of
unfolding point_of
law_point = record {
  takes = λ l x e.
      let c = chosen (is_point l) (Some (join_with_byte 32 l)) x e in
      let p = point_is l c.0 in
      let q : join_with_byte 32 l ≡ x = some_is (join_with_byte 32 l) x c.1 in
      let s : l ≡ words x = sym (words_join l (clean l p)) ∙ ap words q in
      (s, subst IsPoint s p);
  again = λ x fits. ap (λ (t : Bool). cond t (Some (join_with_byte 32 (words x))) None) (passes (words x) fits) ∙ ap (λ (y : List ℕ). Some y) (join_words x);
  line = λ x fits. clean (words x) fits;
}

a_point : (text : List ℕ) × IsPointText text
a_point =
    let p : IsPoint (three (codes "S") (codes "a") (35 ∷ decimal 0)) = statement (codes "a") (35 ∷ decimal 0) refl (0, omega arith, refl) in
    (join_with_byte 32 (three (codes "S") (codes "a") (35 ∷ decimal 0)), subst IsPoint (sym (words_join (three (codes "S") (codes "a") (35 ∷ decimal 0)) (clean (three (codes "S") (codes "a") (35 ∷ decimal 0)) p))) p)

pub point_reader : IsReaderOf (λ p. words p ∷ []) (λ _ p. IsPointText p) (line_by point_of)
point_reader = law_line words IsPointText point_of law_point a_point
