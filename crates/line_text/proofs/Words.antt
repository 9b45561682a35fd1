-- What the words and lines of a text spell, and what is read of them.
use Rattle.std.proofs.Common.{◌≡◌, ℕ, ◌^◌, ◌<◌, ◌≤◌, Bool, true, false, not, cond, eqb, List, [], ◌∷◌, ◌++◌, Option, Some, None, option_map, refl, ap, subst, ◌∙◌, arith, ◌⊎◌, inl, inr, decimal, ◌&&◌}
use Rattle.std.specs.Prelude.{option_and_then}
use Rattle.std.specs.List.{list_all}
use Rattle.std.specs.Str.{bytes_eq}
use Rattle.std.proofs.lemmas.Bool.{and_parts, not-true}
use Rattle.std.proofs.lemmas.Slice.Eq.{bytes_eq-Decides}
use Rattle.line_text.specs.Lines.{Line, one_of, two_of, three_of, Lacks, IsWord, IsLine}
use Rattle.line_text.specs.Number.{number_of}
use Rattle.line_text.specs.Reading.{line_by, either_of}
use Rattle.line_text.specs.Tagged.{tagged, behind, numbered_of, exactly, exact_of, alone_of}
use Rattle.line_text.proofs.Laws.{IsLineOf, IsReaderOf, law_line, some_is}
use Rattle.line_text.proofs.Numerals.{number_takes, number_again, number_word}

pub record IsWordOf {X : Type 0} (spell : X → List ℕ) (Fits : X → Type 0) (f : List ℕ → Option X) : Type 0 where
  pub takes : (w : List ℕ) (x : X) → f w ≡ Some x → (w ≡ spell x) × Fits x
  pub again : (x : X) → Fits x → f (spell x) ≡ Some x
  pub some : (x : X) × Fits x
  pub word : (x : X) → Fits x → IsWord (spell x)

pub and_then_some : {A B : Type 0} (f : A → Option B) (o : Option A) (y : B) → option_and_then f o ≡ Some y → (x : A) × (o ≡ Some x) × (f x ≡ Some y)
and_then_some f None y e = absurd cc
and_then_some f (Some x) y e = (x, refl, e)

pub map_some : {A B : Type 0} (f : A → B) (o : Option A) (y : B) → option_map f o ≡ Some y → (x : A) × (o ≡ Some x) × (f x ≡ y)
map_some f None y e = absurd cc
map_some f (Some x) y e = (x, refl, some_is (f x) y e)

pub chosen : {X : Type 0} (b : Bool) (x : Option X) (y : X) → cond b x None ≡ Some y → (b ≡ true) × (x ≡ Some y)
chosen true x y e = (refl, e)
chosen false x y e = absurd cc

pub same_bytes : (xs ys : List ℕ) → bytes_eq xs ys ≡ true → xs ≡ ys
same_bytes xs ys e = (bytes_eq-Decides xs ys).0 e

pub bytes_same : (xs : List ℕ) → bytes_eq xs xs ≡ true
bytes_same xs = (bytes_eq-Decides xs xs).1 refl

-- ---- lines by their words

pub one_is : (l : Line) (w : List ℕ) → one_of l ≡ Some w → l ≡ w ∷ []
one_is [] w e = absurd cc
one_is (a ∷ []) w e = ap (λ (x : List ℕ). x ∷ []) (some_is a w e)
one_is (a ∷ b ∷ more) w e = absurd cc

pub two_is : (l : Line) (p : List ℕ × List ℕ) → two_of l ≡ Some p → l ≡ p.0 ∷ p.1 ∷ []
two_is [] p e = absurd cc
two_is (a ∷ []) p e = absurd cc
two_is (a ∷ b ∷ []) p e =
    let made : List ℕ × List ℕ = (a, b) in
    ap (λ (q : List ℕ × List ℕ). q.0 ∷ q.1 ∷ []) (some_is made p e)
two_is (a ∷ b ∷ c ∷ more) p e = absurd cc

pub three_is : (l : Line) (p : List ℕ × List ℕ × List ℕ) → three_of l ≡ Some p → l ≡ p.0 ∷ p.1 ∷ p.2 ∷ []
three_is [] p e = absurd cc
three_is (a ∷ []) p e = absurd cc
three_is (a ∷ b ∷ []) p e = absurd cc
three_is (a ∷ b ∷ c ∷ []) p e =
    let made : List ℕ × List ℕ × List ℕ = (a, b, c) in
    ap (λ (q : List ℕ × List ℕ × List ℕ). q.0 ∷ q.1 ∷ q.2 ∷ []) (some_is made p e)
three_is (a ∷ b ∷ c ∷ d ∷ more) p e = absurd cc

behind_is : (tag : List ℕ) (l : Line) (w : List ℕ) → behind tag l ≡ Some w → l ≡ tagged tag w
behind_is tag l w e =
    let a = and_then_some (λ p. cond (bytes_eq p.0 tag) (Some p.1) None) (two_of l) w e in
    let c = chosen (bytes_eq a.0.0 tag) (Some a.0.1) w a.2 in
    two_is l a.0 a.1 ∙ ap (λ (x : List ℕ). x ∷ a.0.1 ∷ []) (same_bytes a.0.0 tag c.0) ∙ ap (λ (x : List ℕ). tag ∷ x ∷ []) (some_is a.0.1 w c.1)

behind_again : (tag w : List ℕ) → behind tag (tagged tag w) ≡ Some w
behind_again tag w = ap (λ (t : Bool). cond t (Some w) None) (bytes_same tag)

pub law_tagged : {X : Type 0} (tag : List ℕ) (s : X → List ℕ) (F : X → Type 0) (f : List ℕ → Option X) → IsWord tag → IsWordOf s F f → IsLineOf (λ x. tagged tag (s x)) F (λ l. option_and_then f (behind tag l))
law_tagged tag s F f tag_word law = record {
  takes = λ l x e.
      let a = and_then_some f (behind tag l) x e in
      let t = law.takes a.0 x a.2 in
      (behind_is tag l a.0 a.1 ∙ ap (tagged tag) t.0, t.1);
  again = λ x fits. ap (option_and_then f) (behind_again tag (s x)) ∙ law.again x fits;
  line = λ x fits. (omega arith, (tag_word, (law.word x fits, tt)));
}

-- one of two kinds of line
abbrev pub spell_either : {X Y : Type 0} → (X → Line) → (Y → Line) → X ⊎ Y → Line
spell_either s1 s2 (inl x) = s1 x
spell_either s1 s2 (inr y) = s2 y

abbrev pub FitEither : {X Y : Type 0} → (X → Type 0) → (Y → Type 0) → X ⊎ Y → Type 0
FitEither F1 F2 (inl x) = F1 x
FitEither F1 F2 (inr y) = F2 y

either_takes : {X Y : Type 0} (s1 : X → Line) (s2 : Y → Line) (F1 : X → Type 0) (F2 : Y → Type 0) (f : Line → Option X) (g : Line → Option Y) → IsLineOf s1 F1 f → IsLineOf s2 F2 g
    → (l : Line) (z : X ⊎ Y) (o : Option X) (p : Option Y) → f l ≡ o → g l ≡ p → either_of o p ≡ Some z → (l ≡ spell_either s1 s2 z) × FitEither F1 F2 z
either_takes s1 s2 F1 F2 f g a b l z (Some x) p e h w = subst (λ y. (l ≡ spell_either s1 s2 y) × FitEither F1 F2 y) (some_is (inl x) z w) (a.takes l x e)
either_takes s1 s2 F1 F2 f g a b l z None (Some y) e h w = subst (λ v. (l ≡ spell_either s1 s2 v) × FitEither F1 F2 v) (some_is (inr y) z w) (b.takes l y h)
either_takes s1 s2 F1 F2 f g a b l z None None e h w = absurd cc

either_again : {X Y : Type 0} (s1 : X → Line) (s2 : Y → Line) (F1 : X → Type 0) (F2 : Y → Type 0) (f : Line → Option X) (g : Line → Option Y) → IsLineOf s1 F1 f → IsLineOf s2 F2 g → ((y : Y) → f (s2 y) ≡ None)
    → (z : X ⊎ Y) → FitEither F1 F2 z → either_of (f (spell_either s1 s2 z)) (g (spell_either s1 s2 z)) ≡ Some z
either_again s1 s2 F1 F2 f g a b apart (inl x) fits = ap (λ o. either_of o (g (s1 x))) (a.again x fits)
either_again s1 s2 F1 F2 f g a b apart (inr y) fits = ap (λ o. either_of o (g (s2 y))) (apart y) ∙ ap (λ o. option_map inr o) (b.again y fits)

either_line : {X Y : Type 0} (s1 : X → Line) (s2 : Y → Line) (F1 : X → Type 0) (F2 : Y → Type 0) (f : Line → Option X) (g : Line → Option Y) → IsLineOf s1 F1 f → IsLineOf s2 F2 g → (z : X ⊎ Y) → FitEither F1 F2 z → IsLine (spell_either s1 s2 z)
either_line s1 s2 F1 F2 f g a b (inl x) fits = a.line x fits
either_line s1 s2 F1 F2 f g a b (inr y) fits = b.line y fits

pub law_either : {X Y : Type 0} (s1 : X → Line) (s2 : Y → Line) (F1 : X → Type 0) (F2 : Y → Type 0) (f : Line → Option X) (g : Line → Option Y) → IsLineOf s1 F1 f → IsLineOf s2 F2 g → ((y : Y) → f (s2 y) ≡ None)
    → IsLineOf (spell_either s1 s2) (FitEither F1 F2) (λ l. either_of (f l) (g l))
law_either s1 s2 F1 F2 f g a b apart = record {
  takes = λ l z e. either_takes s1 s2 F1 F2 f g a b l z (f l) (g l) refl refl e;
  again = λ z fits. either_again s1 s2 F1 F2 f g a b apart z fits;
  line = λ z fits. either_line s1 s2 F1 F2 f g a b z fits;
}

-- ---- words

abbrev pub is_clean : ℕ → Bool
is_clean b = not (eqb b 32) && not (eqb b 10)

pub word_from : (w : List ℕ) → list_all is_clean w ≡ true → IsWord w
word_from [] e = (tt, tt)
word_from (b ∷ bs) e =
    let p = and_parts (is_clean b) (list_all is_clean bs) e in
    let q = and_parts (not (eqb b 32)) (not (eqb b 10)) p.0 in
    let i = word_from bs p.1 in
    ((not-true (eqb b 32) q.0, i.0), (not-true (eqb b 10) q.1, i.1))

pub lacks_append : (byte : ℕ) (xs ys : List ℕ) → Lacks byte xs → Lacks byte ys → Lacks byte (xs ++ ys)
lacks_append byte [] ys p q = q
lacks_append byte (x ∷ xs) ys p q = (p.0, lacks_append byte xs ys p.1 q)

pub law_number : (max : ℕ) → max < 10 ^ 64 → IsWordOf decimal (λ n. n ≤ max) (number_of max)
law_number max lt = record {
  takes = λ w n e. number_takes max w n lt e;
  again = λ n le. number_again max n lt le;
  some = (0, omega arith);
  word = λ n le. number_word n (omega arith);
}

pub law_exactly : (word : List ℕ) → IsWord word → IsWordOf (λ _. word) (λ _. Unit {0}) (exactly word)
law_exactly word is_word = record {
  takes = λ w x e. (same_bytes w word (chosen (bytes_eq w word) (Some tt) x e).0, tt);
  again = λ x fits. ap (λ (t : Bool). cond t (Some tt) None) (bytes_same word);
  some = (tt, tt);
  word = λ x fits. is_word;
}

pub law_alone : (word : List ℕ) → IsWord word → IsLineOf (λ _. word ∷ []) (λ _. Unit {0}) (alone_of word)
law_alone word is_word = record {
  takes = λ l x e.
      let a = and_then_some (exactly word) (one_of l) x e in
      (one_is l a.0 a.1 ∙ ap (λ (w : List ℕ). w ∷ []) (same_bytes a.0 word (chosen (bytes_eq a.0 word) (Some tt) x a.2).0), tt);
  again = λ x fits. ap (λ (t : Bool). cond t (Some tt) None) (bytes_same word);
  line = λ x fits. (omega arith, (is_word, tt));
}

-- ---- readers of one line

pub exact_reader : (tag word : List ℕ) → IsWord tag → IsWord word → IsReaderOf (λ _. tagged tag word ∷ []) (λ _ _. Unit {0}) (line_by (exact_of tag word))
exact_reader tag word t w = law_line (λ _. tagged tag word) (λ _. Unit {0}) (exact_of tag word) (law_tagged tag (λ _. word) (λ _. Unit {0}) _ t (law_exactly word w)) (tt, tt)

pub number_reader : (tag : List ℕ) (max : ℕ) → IsWord tag → max < 10 ^ 64 → IsReaderOf (λ n. tagged tag (decimal n) ∷ []) (λ _ n. n ≤ max) (line_by (numbered_of tag max))
number_reader tag max w lt = law_line (λ n. tagged tag (decimal n)) (λ n. n ≤ max) (numbered_of tag max) (law_tagged tag decimal (λ n. n ≤ max) _ w (law_number max lt)) (law_number max lt).some
