-- A line of a proof is read from the words that spell it, and from no others.
use Rattle.std.proofs.Common.{◌≡◌, ℕ, ◌^◌, ◌<◌, ◌≤◌, inl, Bool, true, false, not, cond, eqb, List, [], ◌∷◌, ◌++◌, map, Option, Some, None, option_map, refl, sym, ap, subst, ◌∙◌, append_assoc, arith, lit<, decimal, codes, ◌&&◌, ◌||◌}
use Rattle.std.specs.Prelude.{option_and_then, is_some, IfOk, Result, Ok, Err}
use Rattle.std.specs.List.{list_any, AllByRecursion}
use Rattle.std.specs.Str.{bytes_eq}
use Rattle.std.proofs.lemmas.Bool.{eqb-true, eqb-false, ne_eqb, and_parts, false_from_ne_true}
use Rattle.std.proofs.lemmas.List.{append-nil}
use Rattle.cnf_core.specs.Literal.{Literal}
use Rattle.cnf_core.specs.declared.Line.{Line}
use Rattle.line_text.specs.Lines.{Line as Words, Lacks, IsWord, IsLine}
use Rattle.line_text.specs.Number.{number_of}
use Rattle.line_text.proofs.Laws.{IsLineOf, some_is}
use Rattle.line_text.proofs.Numerals.{number_takes, number_again, number_word, number_lacks}
use Rattle.line_text.proofs.Words.{IsWordOf, and_then_some, map_some, same_bytes, word_from}
use Rattle.proof_lines.specs.Spelling.{PlainLine, plain, Addition, Deletion, literal_word, line_words, IsId, IsLiteral, Fits, RatLine, rat_words, IsRat}
use Rattle.proof_lines.specs.Answers.{LineAnswers}
use Rattle.proof_lines.specs.Reading.{positive, id_of, signed, signed_of, literal_of, hint_of, to_zero, only, deletion_of, addition_of, behind_id, lrat_of, rat_next, is_nothing, are_rat_hints, rat_after, is_rat}

abbrev most : ℕ
most = 9223372036854775807

abbrev most_variable : ℕ
most_variable = 2147483647

-- ---- words

not_zero : (n m : ℕ) (b : Bool) → eqb n 0 ≡ b → cond b None (Some n) ≡ Some m → (0 < n) × (n ≡ m)
not_zero n m true e h = absurd cc
not_zero n m false e h = let ne = eqb-false n 0 e in (omega arith, some_is n m h)

law_positive : (max : ℕ) → max < 10 ^ 64 → 0 < max → IsWordOf decimal (λ n. (0 < n) × (n ≤ max)) (positive max)
law_positive max lt some = record {
  takes = λ w n e.
      let a = and_then_some (λ n. cond (eqb n 0) None (Some n)) (number_of max w) n e in
      let z = not_zero a.0 n (eqb a.0 0) refl a.2 in
      let t = number_takes max w a.0 lt a.1 in
      subst (λ (m : ℕ). (w ≡ decimal m) × ((0 < m) × (m ≤ max))) z.1 (t.0, (z.0, t.1));
  again = λ n f. ap (option_and_then (λ n. cond (eqb n 0) None (Some n))) (number_again max n lt f.1) ∙ ap (λ (t : Bool). cond t None (Some n)) (ne_eqb n 0 (λ e. absurd (omega (arith, f.0, e))));
  some = (1, (omega arith, omega arith));
  word = λ n f. number_word n (omega (arith, f.1));
}

law_id : IsWordOf decimal (λ n. (0 < n) × (n ≤ most)) id_of
law_id = law_positive most (lit< tt) (lit< tt)

abbrev Small : ℕ → Literal → Type 0
Small max x = (0 < x.variable) × (x.variable ≤ max)

signed_by :
    (max : ℕ) → max < 10 ^ 64 → 0 < max → (b : ℕ) (bs : List ℕ) (x : Literal) (t : Bool) → eqb b 45 ≡ t →
    cond t (option_map (signed false) (positive max bs)) (option_map (signed true) (positive max (b ∷ bs))) ≡ Some x → (b ∷ bs ≡ literal_word x) × Small max x
signed_by max lt some b bs x true e h =
    let m = map_some (signed false) (positive max bs) x h in
    let t = (law_positive max lt some).takes bs m.0 m.1 in
    subst (λ (y : Literal). (b ∷ bs ≡ literal_word y) × Small max y) m.2 (ap (λ (c : ℕ). c ∷ bs) (eqb-true b 45 e) ∙ ap (λ (c : List ℕ). 45 ∷ c) t.0, t.1)
signed_by max lt some b bs x false e h =
    let m = map_some (signed true) (positive max (b ∷ bs)) x h in
    let t = (law_positive max lt some).takes (b ∷ bs) m.0 m.1 in
    subst (λ (y : Literal). (b ∷ bs ≡ literal_word y) × Small max y) m.2 (t.0, t.1)

signed_takes : (max : ℕ) → max < 10 ^ 64 → 0 < max → (w : List ℕ) (x : Literal) → signed_of max w ≡ Some x → (w ≡ literal_word x) × Small max x
unfolding signed_of
signed_takes max lt some [] x e = absurd cc
signed_takes max lt some (b ∷ bs) x e = signed_by max lt some b bs x (eqb b 45) refl e

plain_again : (max : ℕ) (w : List ℕ) (n : ℕ) → Lacks 45 w → positive max w ≡ Some n → signed_of max w ≡ Some (signed true n)
unfolding signed_of number_of
plain_again max [] n l e = absurd cc
plain_again max (b ∷ bs) n l e =
    ap (λ (t : Bool). cond t (option_map (signed false) (positive max bs)) (option_map (signed true) (positive max (b ∷ bs)))) l.0 ∙ ap (option_map (signed true)) e

signed_again :
    (max : ℕ) → max < 10 ^ 64 → 0 < max → (n : ℕ) (is_positive : Bool) → (0 < n) × (n ≤ max) →
    signed_of max (literal_word (signed is_positive n)) ≡ Some (signed is_positive n)
unfolding signed_of
signed_again max lt some n false f = ap (option_map (signed false)) ((law_positive max lt some).again n f)
signed_again max lt some n true f = plain_again max (decimal n) n (number_lacks 45 (inl (lit< tt)) n (omega (arith, f.1))) ((law_positive max lt some).again n f)

signed_is_word : (n : ℕ) (is_positive : Bool) → n < 10 ^ 64 → IsWord (literal_word (signed is_positive n))
signed_is_word n false le = let w = number_word n le in ((refl, w.0), (refl, w.1))
signed_is_word n true le = number_word n le

law_signed : (max : ℕ) → max < 10 ^ 64 → 0 < max → IsWordOf literal_word (Small max) (signed_of max)
law_signed max lt some = record {
  takes = signed_takes max lt some;
  again = λ x f. signed_again max lt some x.variable x.positive f;
  some = (signed true 1, (omega arith, omega arith));
  word = λ x f. signed_is_word x.variable x.positive (omega (arith, f.1));
}

law_literal : IsWordOf literal_word (Small most_variable) literal_of
law_literal = law_signed most_variable (lit< tt) (lit< tt)

law_hint : IsWordOf literal_word (Small most) hint_of
law_hint = law_signed most (lit< tt) (lit< tt)

none_some : {X : Type 0} (x : X) → None ≡ Some x → ⊥
none_some x e = cc

-- a word that isn't read is no value's word
apart : {X : Type 0} (s : X → List ℕ) (F : X → Type 0) (f : List ℕ → Option X) → IsWordOf s F f → (w : List ℕ) → f w ≡ None → (x : X) → F x → bytes_eq (s x) w ≡ false
apart {X} s F f law w e x fits = false_from_ne_true (bytes_eq (s x) w) (λ t.
    let a : f w ≡ Some x = ap f (sym (same_bytes (s x) w t)) ∙ law.again x fits in
    none_some x (sym e ∙ a))

-- ---- lists of words up to 0

record ToZero {X : Type 0} (s : X → List ℕ) (F : X → Type 0) (seen : List X) (ws : Words) (r : List X × Words) : Type 0 where
  new : List X
  all : r.0 ≡ seen ++ new
  parts : ws ≡ map s new ++ codes "0" ∷ r.1
  fits : AllByRecursion F new

to_zero_by : {X : Type 0} (s : X → List ℕ) (F : X → Type 0) (f : List ℕ → Option X) → IsWordOf s F f → (w : List ℕ) (ws : Words) (seen : List X) (r : List X × Words) (t : Bool) → bytes_eq w (codes "0") ≡ t
    → ((x : X) → to_zero f (seen ++ x ∷ []) ws ≡ Some r → ToZero s F (seen ++ x ∷ []) ws r)
    → cond t (Some (seen, ws)) (option_and_then (λ x. to_zero f (seen ++ x ∷ []) ws) (f w)) ≡ Some r → ToZero s F seen (w ∷ ws) r
to_zero_by {X} s F f law w ws seen r true e go h =
    let made : List X × Words = (seen, ws) in
    subst (λ (p : List X × Words). ToZero s F seen (w ∷ ws) p) (some_is made r h) (record { new = []; all = sym (append-nil seen); parts = ap (λ (v : List ℕ). v ∷ ws) (same_bytes w (codes "0") e); fits = tt })
to_zero_by {X} s F f law w ws seen r false e go h =
    let a = and_then_some (λ x. to_zero f (seen ++ x ∷ []) ws) (f w) r h in
    let i = go a.0 a.2 in
    let t = law.takes w a.0 a.1 in
    record {
      new = a.0 ∷ i.new;
      all = i.all ∙ append_assoc seen (a.0 ∷ []) i.new;
      parts = ap (λ (v : List ℕ). v ∷ ws) t.0 ∙ ap (λ (l : Words). s a.0 ∷ l) i.parts;
      fits = (t.1, i.fits);
    }

to_zero_takes : {X : Type 0} (s : X → List ℕ) (F : X → Type 0) (f : List ℕ → Option X) → IsWordOf s F f → (ws : Words) (seen : List X) (r : List X × Words) → to_zero f seen ws ≡ Some r → ToZero s F seen ws r
to_zero_takes s F f law [] seen r e = absurd cc
to_zero_takes s F f law (w ∷ ws) seen r e = to_zero_by s F f law w ws seen r (bytes_eq w (codes "0")) refl (λ x. to_zero_takes s F f law ws (seen ++ x ∷ []) r) e

to_zero_again : {X : Type 0} (s : X → List ℕ) (F : X → Type 0) (f : List ℕ → Option X) → IsWordOf s F f → f (codes "0") ≡ None → (xs seen : List X) (rest : Words) → AllByRecursion F xs → to_zero f seen (map s xs ++ codes "0" ∷ rest) ≡ Some (seen ++ xs, rest)
to_zero_again {X} s F f law z [] seen rest fits = ap (λ (ys : List X). Some (ys, rest)) (sym (append-nil seen))
to_zero_again {X} s F f law z (x ∷ xs) seen rest fits =
    let ws : Words = map s xs ++ codes "0" ∷ rest in
    ap (λ (t : Bool). cond t (Some (seen, ws)) (option_and_then (λ x. to_zero f (seen ++ x ∷ []) ws) (f (s x)))) (apart s F f law (codes "0") z x fits.0)
    ∙ ap (option_and_then (λ x. to_zero f (seen ++ x ∷ []) ws)) (law.again x fits.0)
    ∙ to_zero_again s F f law z xs (seen ++ x ∷ []) rest fits.1
    ∙ ap (λ (ys : List X). Some (ys, rest)) (append_assoc seen (x ∷ []) xs)

-- ---- a line

abbrev SmallId : ℕ → Type 0
SmallId n = (0 < n) × (n ≤ most)

small_ids : (xs : List ℕ) → AllByRecursion SmallId xs → AllByRecursion IsId xs
small_ids [] f = tt
small_ids (x ∷ xs) f = ((f.0.0, omega (arith, f.0.1)), small_ids xs f.1)

ids_small : (xs : List ℕ) → AllByRecursion IsId xs → AllByRecursion SmallId xs
ids_small [] f = tt
ids_small (x ∷ xs) f = ((f.0.0, omega (arith, f.0.1)), ids_small xs f.1)

small_literals : (xs : List Literal) → AllByRecursion (Small most_variable) xs → AllByRecursion IsLiteral xs
small_literals [] f = tt
small_literals (x ∷ xs) f = ((f.0.0, omega (arith, f.0.1)), small_literals xs f.1)

literals_small : (xs : List Literal) → AllByRecursion IsLiteral xs → AllByRecursion (Small most_variable) xs
literals_small [] f = tt
literals_small (x ∷ xs) f = ((f.0.0, omega (arith, f.0.1)), literals_small xs f.1)

only_is : (x y : PlainLine) (ws : Words) → only x ws ≡ Some y → (x ≡ y) × (ws ≡ [])
only_is x y [] e = (some_is x y e, refl)
only_is x y (w ∷ ws) e = absurd cc

-- what stands behind an id, as words
abbrev Behind : ℕ → Words → PlainLine → Type 0
Behind id ws x = (decimal id ∷ ws ≡ line_words x) × (IsId id → Fits x)

deletion_takes : (id : ℕ) (ws : Words) (x : PlainLine) → deletion_of id ws ≡ Some x → Behind id (codes "d" ∷ ws) x
deletion_takes id ws x e =
    let a = and_then_some (λ a. only (Deletion id a.0) a.1) (to_zero id_of [] ws) x e in
    let o = only_is (Deletion id a.0.0) x a.0.1 a.2 in
    let t = to_zero_takes decimal SmallId id_of law_id ws [] a.0 a.1 in
    let ids : List ℕ = a.0.0 in
    let parts : ws ≡ map decimal ids ++ codes "0" ∷ [] = t.parts ∙ ap (λ (ns : List ℕ). map decimal ns ++ codes "0" ∷ a.0.1) (sym t.all) ∙ ap (λ (l : Words). map decimal ids ++ codes "0" ∷ l) o.1 in
    let fits : AllByRecursion IsId ids = subst (λ (ns : List ℕ). AllByRecursion IsId ns) (sym t.all) (small_ids t.new t.fits) in
    subst (λ (y : PlainLine). Behind id (codes "d" ∷ ws) y) o.0 (ap (λ (l : Words). decimal id ∷ codes "d" ∷ l) parts, λ i. (i, fits))

regrouped : (ls hs : Words) → (ls ++ codes "0" ∷ hs) ++ codes "0" ∷ [] ≡ ls ++ codes "0" ∷ (hs ++ codes "0" ∷ [])
regrouped ls hs = append_assoc ls (codes "0" ∷ hs) (codes "0" ∷ [])

addition_takes : (id : ℕ) (ws : Words) (x : PlainLine) → addition_of id ws ≡ Some x → Behind id ws x
addition_takes id ws x e =
    let a = and_then_some (λ a. option_and_then (λ b. only (Addition id a.0 b.0) b.1) (to_zero id_of [] a.1)) (to_zero literal_of [] ws) x e in
    let b = and_then_some (λ b. only (Addition id a.0.0 b.0) b.1) (to_zero id_of [] a.0.1) x a.2 in
    let o = only_is (Addition id a.0.0 b.0.0) x b.0.1 b.2 in
    let t = to_zero_takes literal_word (Small most_variable) literal_of law_literal ws [] a.0 a.1 in
    let u = to_zero_takes decimal SmallId id_of law_id a.0.1 [] b.0 b.1 in
    let ls : List Literal = a.0.0 in
    let hs : List ℕ = b.0.0 in
    let second : a.0.1 ≡ map decimal hs ++ codes "0" ∷ [] = u.parts ∙ ap (λ (ns : List ℕ). map decimal ns ++ codes "0" ∷ b.0.1) (sym u.all) ∙ ap (λ (l : Words). map decimal hs ++ codes "0" ∷ l) o.1 in
    let first : ws ≡ map literal_word ls ++ codes "0" ∷ (map decimal hs ++ codes "0" ∷ []) = t.parts ∙ ap (λ (ys : List Literal). map literal_word ys ++ codes "0" ∷ a.0.1) (sym t.all) ∙ ap (λ (l : Words). map literal_word ls ++ codes "0" ∷ l) second in
    let fits1 : AllByRecursion IsLiteral ls = subst (λ (ys : List Literal). AllByRecursion IsLiteral ys) (sym t.all) (small_literals t.new t.fits) in
    let fits2 : AllByRecursion IsId hs = subst (λ (ns : List ℕ). AllByRecursion IsId ns) (sym u.all) (small_ids u.new u.fits) in
    subst (λ (y : PlainLine). Behind id ws y) o.0 (ap (λ (l : Words). decimal id ∷ l) (first ∙ sym (regrouped (map literal_word ls) (map decimal hs))), λ i. (i, fits1, fits2))

behind_by : (id : ℕ) (w : List ℕ) (ws : Words) (x : PlainLine) (t : Bool) → bytes_eq w (codes "d") ≡ t → cond t (deletion_of id ws) (addition_of id (w ∷ ws)) ≡ Some x → Behind id (w ∷ ws) x
behind_by id w ws x true e h = subst (λ (v : List ℕ). Behind id (v ∷ ws) x) (sym (same_bytes w (codes "d") e)) (deletion_takes id ws x h)
behind_by id w ws x false e h = addition_takes id (w ∷ ws) x h

behind_takes : (id : ℕ) (ws : Words) (x : PlainLine) → behind_id id ws ≡ Some x → Behind id ws x
behind_takes id [] x e = absurd cc
behind_takes id (w ∷ ws) x e = behind_by id w ws x (bytes_eq w (codes "d")) refl e

pub lrat_takes : (l : Words) (x : PlainLine) → lrat_of l ≡ Some x → (l ≡ line_words x) × Fits x
unfolding lrat_of
lrat_takes [] x e = absurd cc
lrat_takes (w ∷ ws) x e =
    let a = and_then_some (λ id. behind_id id ws) (id_of w) x e in
    let t = law_id.takes w a.0 a.1 in
    let b = behind_takes a.0 ws x a.2 in
    (ap (λ (v : List ℕ). v ∷ ws) t.0 ∙ b.0, b.1 (t.1.0, omega (arith, t.1.1)))

zero_id : id_of (codes "0") ≡ None
unfolding number_of
zero_id = refl

zero_literal : literal_of (codes "0") ≡ None
unfolding signed_of number_of
zero_literal = refl

zero_hint : hint_of (codes "0") ≡ None
unfolding signed_of number_of
zero_hint = refl

d_literal : literal_of (codes "d") ≡ None
unfolding signed_of number_of
d_literal = refl

deletion_again : (id : ℕ) (ids : List ℕ) → AllByRecursion IsId ids → deletion_of id (map decimal ids ++ codes "0" ∷ []) ≡ Some (Deletion id ids)
deletion_again id ids f = ap (option_and_then (λ a. only (Deletion id a.0) a.1)) (to_zero_again decimal SmallId id_of law_id zero_id ids [] [] (ids_small ids f))

addition_again : (id : ℕ) (ls : List Literal) (hs : List ℕ) → AllByRecursion IsLiteral ls → AllByRecursion IsId hs → addition_of id (map literal_word ls ++ codes "0" ∷ (map decimal hs ++ codes "0" ∷ [])) ≡ Some (Addition id ls hs)
addition_again id ls hs f g =
    ap (option_and_then (λ a. option_and_then (λ b. only (Addition id a.0 b.0) b.1) (to_zero id_of [] a.1))) (to_zero_again literal_word (Small most_variable) literal_of law_literal zero_literal ls [] (map decimal hs ++ codes "0" ∷ []) (literals_small ls f))
    ∙ ap (option_and_then (λ b. only (Addition id ls b.0) b.1)) (to_zero_again decimal SmallId id_of law_id zero_id hs [] [] (ids_small hs g))

behind_addition : (id : ℕ) (ls : List Literal) (rest : Words) → AllByRecursion IsLiteral ls → behind_id id (map literal_word ls ++ codes "0" ∷ rest) ≡ addition_of id (map literal_word ls ++ codes "0" ∷ rest)
behind_addition id [] rest f = refl
behind_addition id (x ∷ xs) rest f =
    let ws : Words = map literal_word xs ++ codes "0" ∷ rest in
    ap (λ (t : Bool). cond t (deletion_of id ws) (addition_of id (literal_word x ∷ ws))) (apart literal_word (Small most_variable) literal_of law_literal (codes "d") d_literal x (literals_small (x ∷ xs) f).0)

pub lrat_again : (x : PlainLine) → Fits x → lrat_of (line_words x) ≡ Some x
unfolding lrat_of
lrat_again (Addition id ls hs) f =
    let tail : Words = map decimal hs ++ codes "0" ∷ [] in
    ap (λ (ws : Words). option_and_then (λ id. behind_id id ws) (id_of (decimal id))) (regrouped (map literal_word ls) (map decimal hs))
    ∙ ap (option_and_then (λ id. behind_id id (map literal_word ls ++ codes "0" ∷ tail))) (law_id.again id (f.0.0, omega (arith, f.0.1)))
    ∙ behind_addition id ls tail f.1 ∙ addition_again id ls hs f.1 f.2
lrat_again (Deletion id ids) f =
    ap (option_and_then (λ id. behind_id id (codes "d" ∷ map decimal ids ++ codes "0" ∷ []))) (law_id.again id (f.0.0, omega (arith, f.0.1))) ∙ deletion_again id ids f.1

-- ---- its words can stand in a line

words_append : (xs ys : Words) → AllByRecursion IsWord xs → AllByRecursion IsWord ys → AllByRecursion IsWord (xs ++ ys)
words_append [] ys p q = q
words_append (x ∷ xs) ys p q = (p.0, words_append xs ys p.1 q)

ids_words : (xs : List ℕ) → AllByRecursion IsId xs → AllByRecursion IsWord (map decimal xs)
ids_words [] f = tt
ids_words (x ∷ xs) f = (number_word x (omega (arith, f.0.1)), ids_words xs f.1)

literals_words : (xs : List Literal) → AllByRecursion IsLiteral xs → AllByRecursion IsWord (map literal_word xs)
literals_words [] f = tt
literals_words (x ∷ xs) f = (signed_is_word x.variable x.positive (omega (arith, f.0.1)), literals_words xs f.1)

hints_words : (xs : List Literal) → AllByRecursion (λ h. IsId h.variable) xs → AllByRecursion IsWord (map literal_word xs)
hints_words [] f = tt
hints_words (x ∷ xs) f = (signed_is_word x.variable x.positive (omega (arith, f.0.1)), hints_words xs f.1)

zero_word : IsWord (codes "0")
zero_word = word_from (codes "0") refl

addition_is_line : (id : ℕ) (ls hs : Words) → IsId id → AllByRecursion IsWord ls → AllByRecursion IsWord hs → IsLine (decimal id ∷ ls ++ codes "0" ∷ hs ++ codes "0" ∷ [])
addition_is_line id ls hs i f g =
    (omega arith, (number_word id (omega (arith, i.1)), words_append (ls ++ codes "0" ∷ hs) (codes "0" ∷ []) (words_append ls (codes "0" ∷ hs) f (zero_word, g)) (zero_word, tt)))

pub lrat_is_line : (x : PlainLine) → Fits x → IsLine (line_words x)
lrat_is_line (Addition id ls hs) f = addition_is_line id (map literal_word ls) (map decimal hs) f.0 (literals_words ls f.1) (ids_words hs f.2)
lrat_is_line (Deletion id ids) f =
    (omega arith, (number_word id (omega (arith, f.0.1)), (word_from (codes "d") refl, words_append (map decimal ids) (codes "0" ∷ []) (ids_words ids f.1) (zero_word, tt))))

-- the law of a line
pub law_lrat : IsLineOf line_words Fits lrat_of
law_lrat = record { takes = lrat_takes; again = lrat_again; line = lrat_is_line }

unread : (x : PlainLine) → Some x ≡ None → ⊥
unread x e = cc

line_answers : (ws : Words) (o : Option PlainLine) → o ≡ lrat_of ws → LineAnswers ws o
line_answers ws (Some x) e = let t = lrat_takes ws x (sym e) in (t.1, t.0)
line_answers ws None e = λ x f h. unread x (sym (lrat_again x f) ∙ ap lrat_of (sym h) ∙ sym e)

-- what a call answers that computes lrat_of
pub read_answers : {E : Type 0} (ws : Words) (r : Result (Option Line) E) → IfOk r (λ o. option_map plain o ≡ lrat_of ws) → IfOk r (λ o. LineAnswers ws (option_map plain o))
read_answers ws (Ok o) e = line_answers ws (option_map plain o) e
read_answers ws (Err f) e = tt

pub rat_is_line : (x : RatLine) → IsRat x → IsLine (rat_words x)
rat_is_line x f = addition_is_line x.id (map literal_word x.lits) (map literal_word x.hints) f.id (literals_words x.lits f.lits) (hints_words x.hints f.hints)

-- ---- lines with a negative hint

abbrev any_negative : List Literal → Bool
any_negative hs = list_any (λ h. not h.positive) hs

record RatHints (seen : Bool) (ws : Words) : Type 0 where
  hints : List Literal
  parts : ws ≡ map literal_word hints ++ codes "0" ∷ []
  fits : AllByRecursion (λ h. IsId h.variable) hints
  negative : (seen || any_negative hints) ≡ true

nothing_is : (ws : Words) → is_nothing ws ≡ true → ws ≡ []
nothing_is [] e = refl
nothing_is (w ∷ ws) e = absurd cc

or-assoc : (a b c : Bool) → ((a || b) || c) ≡ (a || (b || c))
or-assoc true b c = refl
or-assoc false b c = refl

or-false : (b : Bool) → (b || false) ≡ b
or-false true = refl
or-false false = refl

hints_end : (seen : Bool) (w : List ℕ) (ws : Words) → bytes_eq w (codes "0") ≡ true → (seen && is_nothing ws) ≡ true → RatHints seen (w ∷ ws)
hints_end seen w ws e h =
    let p = and_parts seen (is_nothing ws) h in
    record {
      hints = [];
      parts = ap (λ (v : List ℕ). v ∷ ws) (same_bytes w (codes "0") e) ∙ ap (λ (l : Words). codes "0" ∷ l) (nothing_is ws p.1);
      fits = tt;
      negative = or-false seen ∙ p.0;
    }

hints_next :
    (seen : Bool) (w : List ℕ) (ws : Words) (o : Option Literal) → hint_of w ≡ o → ((now : Bool) → are_rat_hints now ws ≡ true → RatHints now ws) →
    rat_next seen o (λ now. are_rat_hints now ws) ≡ true → RatHints seen (w ∷ ws)
hints_next seen w ws None e go h = absurd cc
hints_next seen w ws (Some x) e go h =
    let i = go (seen || not x.positive) h in
    let t = law_hint.takes w x e in
    record {
      hints = x ∷ i.hints;
      parts = ap (λ (v : List ℕ). v ∷ ws) t.0 ∙ ap (λ (l : Words). literal_word x ∷ l) i.parts;
      fits = ((t.1.0, omega (arith, t.1.1)), i.fits);
      negative = sym (or-assoc seen (not x.positive) (any_negative i.hints)) ∙ i.negative;
    }

hints_by :
    (seen : Bool) (w : List ℕ) (ws : Words) (t : Bool) → bytes_eq w (codes "0") ≡ t → ((now : Bool) → are_rat_hints now ws ≡ true → RatHints now ws) →
    cond t (seen && is_nothing ws) (rat_next seen (hint_of w) (λ now. are_rat_hints now ws)) ≡ true → RatHints seen (w ∷ ws)
hints_by seen w ws true e go h = hints_end seen w ws e h
hints_by seen w ws false e go h = hints_next seen w ws (hint_of w) refl go h

hints_take : (ws : Words) (seen : Bool) → are_rat_hints seen ws ≡ true → RatHints seen ws
hints_take [] seen e = absurd cc
hints_take (w ∷ ws) seen e = hints_by seen w ws (bytes_eq w (codes "0")) refl (λ now. hints_take ws now) e

hints_again : (hs : List Literal) (seen : Bool) → AllByRecursion (λ h. IsId h.variable) hs → (seen || any_negative hs) ≡ true → are_rat_hints seen (map literal_word hs ++ codes "0" ∷ []) ≡ true
hints_again [] seen f n = ap (λ b. b && true) (sym (or-false seen) ∙ n)
hints_again (x ∷ xs) seen f n =
    let ws : Words = map literal_word xs ++ codes "0" ∷ [] in
    let small : Small most x = (f.0.0, omega (arith, f.0.1)) in
    ap (λ (t : Bool). cond t (seen && is_nothing ws) (rat_next seen (hint_of (literal_word x)) (λ now. are_rat_hints now ws))) (apart literal_word (Small most) hint_of law_hint (codes "0") zero_hint x small)
    ∙ ap (λ (o : Option Literal). rat_next seen o (λ now. are_rat_hints now ws)) (law_hint.again x small)
    ∙ hints_again xs (seen || not x.positive) f.1 (or-assoc seen (not x.positive) (any_negative xs) ∙ n)

abbrev Rat : Words → Type 0
Rat ws = (x : RatLine) × IsRat x × (ws ≡ rat_words x)

some_value : {X : Type 0} (o : Option X) → is_some o ≡ true → (x : X) × (o ≡ Some x)
some_value None e = absurd cc
some_value (Some x) e = (x, refl)

rat_by : (w : List ℕ) (ws : Words) (id : ℕ) (o : Option (List Literal × Words)) → id_of w ≡ Some id → to_zero literal_of [] ws ≡ o → rat_after o ≡ true → Rat (w ∷ ws)
rat_by w ws id None i e h = absurd cc
rat_by w ws id (Some a) i e h =
    let t = to_zero_takes literal_word (Small most_variable) literal_of law_literal ws [] a e in
    let g = hints_take a.1 false h in
    let n = law_id.takes w id i in
    let first : ws ≡ map literal_word a.0 ++ codes "0" ∷ (map literal_word g.hints ++ codes "0" ∷ []) =
    t.parts ∙ ap (λ (ys : List Literal). map literal_word ys ++ codes "0" ∷ a.1) (sym t.all) ∙ ap (λ (l : Words). map literal_word a.0 ++ codes "0" ∷ l) g.parts in (
      record { id = id; lits = a.0; hints = g.hints },
      record {
        id = (n.1.0, omega (arith, n.1.1));
        lits = subst (λ (ys : List Literal). AllByRecursion IsLiteral ys) (sym t.all) (small_literals t.new t.fits);
        hints = g.fits;
        negative = g.negative;
      },
      ap (λ (v : List ℕ). v ∷ ws) n.0 ∙ ap (λ (l : Words). decimal id ∷ l) (first ∙ sym (regrouped (map literal_word a.0) (map literal_word g.hints))),
    )

pub rat_takes : (ws : Words) → is_rat ws ≡ true → Rat ws
unfolding is_rat
rat_takes [] e = absurd cc
rat_takes (w ∷ ws) e =
    let p = and_parts (is_some (id_of w)) (rat_after (to_zero literal_of [] ws)) e in
    let i = some_value (id_of w) p.0 in
    rat_by w ws i.0 (to_zero literal_of [] ws) i.1 refl p.1

pub rat_again : (x : RatLine) → IsRat x → is_rat (rat_words x) ≡ true
unfolding is_rat
rat_again x f =
    let tail : Words = map literal_word x.hints ++ codes "0" ∷ [] in
    ap (λ (o : Option ℕ). is_some o && rat_after (to_zero literal_of [] ((map literal_word x.lits ++ codes "0" ∷ map literal_word x.hints) ++ codes "0" ∷ []))) (law_id.again x.id (f.id.0, omega (arith, f.id.1)))
    ∙ ap (λ (ws : Words). rat_after (to_zero literal_of [] ws)) (regrouped (map literal_word x.lits) (map literal_word x.hints))
    ∙ ap rat_after (to_zero_again literal_word (Small most_variable) literal_of law_literal zero_literal x.lits [] tail (literals_small x.lits f.lits))
    ∙ hints_again x.hints false f.hints f.negative
