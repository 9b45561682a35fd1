-- The proofs of a ladder as lines.
use Rattle.std.proofs.Common.{◌≡◌, ℕ, zero, suc, ◌+◌, ◌-◌, ◌≤◌, Bool, true, false, not, cond, eqb, leb, List, [], ◌∷◌, ◌++◌, length, map, Option, Some, None, option_map, Ok, refl, sym, ap, subst, ◌∙◌, arith, lit<, decimal, codes, ◌&&◌, ◌||◌}
use Rattle.std.specs.Prelude.{option_and_then}
use Rattle.std.specs.List.{AllByRecursion}
use Rattle.std.specs.Str.{bytes_eq}
use Rattle.std.proofs.lemmas.Bool.{leb-true, le-leb, eqb-true, eqb-false, eq-eqb, and_parts, and_from}
use Rattle.std.proofs.lemmas.List.{append-nil, nil_from_length}
use Rattle.std.proofs.lemmas.List.Sums.{sum_by-cons}
use Rattle.cnf_core.specs.Literal.{Literal}
use Rattle.bit_system.specs.ProofLines.{ProofLine, addition, deletion}
use Rattle.proof_lines.specs.Spelling.{PlainLine, Addition, Deletion, IsLiteral, Fits as FitsLine}
use Rattle.proof_lines.specs.Reading.{lrat_of}
use Rattle.proof_lines.proofs.LineLaws.{law_lrat}
use Rattle.line_text.specs.Lines.{Line, three_of, IsWord}
use Rattle.line_text.specs.Number.{number_of}
use Rattle.line_text.specs.Reading.{◌>>=◌, line_by}
use Rattle.line_text.proofs.Laws.{IsLineOf, IsReaderOf, law_line, law_then, law_done, law_as, some_is, head_or, tail_list}
use Rattle.line_text.proofs.Numerals.{number_takes, number_again, number_word}
use Rattle.line_text.proofs.Words.{and_then_some, map_some, chosen, same_bytes, bytes_same, three_is, word_from}
use Rattle.cert_text.specs.Tests.{four_of}
use Rattle.cert_text.specs.Spelling.{plain_line, proof_line, added, all_added, proof_lines, FitsProof}
use Rattle.cert_text.specs.Ladders.{pair_of, tagged_pair_of, step_of, said, line_within, lines_from, proof_at}
use Rattle.cert_text.proofs.PointLaws.{four_is}

abbrev most : ℕ
most = 9223372036854775807

-- ---- two numbers

pub record FitsPair (p : ℕ × ℕ) : Type 0 where
  pub first : p.0 ≤ most
  pub second : p.1 ≤ most
  pub none : p.0 ≡ 0 → p.1 ≡ 0

abbrev pub pair_words : ℕ × ℕ → Line
pair_words p = decimal p.0 ∷ decimal p.1 ∷ []

pub no_pair : FitsPair (0, 0)
no_pair = record { first = omega arith; second = omega arith; none = λ e. e }

abbrev pair_by : ℕ → ℕ → Option (ℕ × ℕ)
pair_by m n = cond (eqb m 0 && not (eqb n 0)) None (Some (m, n))

pair_kept : (m n : ℕ) (p : ℕ × ℕ) (s t : Bool) → eqb m 0 ≡ s → eqb n 0 ≡ t → cond (s && not t) None (Some (m, n)) ≡ Some p → (m ≡ 0 → n ≡ 0) × ((m, n) ≡ p)
pair_kept m n p true true e f w = let q : ℕ × ℕ = (m, n) in (λ _. eqb-true n 0 f, some_is q p w)
pair_kept m n p true false e f w = absurd cc
pair_kept m n p false t e f w = let q : ℕ × ℕ = (m, n) in (λ z. absurd (eqb-false m 0 e z), some_is q p w)

pair_takes : (a b : List ℕ) (p : ℕ × ℕ) → pair_of a b ≡ Some p → (a ∷ b ∷ [] ≡ pair_words p) × FitsPair p
pair_takes a b p e =
    let m = and_then_some (λ m. option_and_then (λ n. pair_by m n) (number_of most b)) (number_of most a) p e in
    let n = and_then_some (λ n. pair_by m.0 n) (number_of most b) p m.2 in
    let s = pair_kept m.0 n.0 p (eqb m.0 0) (eqb n.0 0) refl refl n.2 in
    let u = number_takes most a m.0 (lit< tt) m.1 in
    let v = number_takes most b n.0 (lit< tt) n.1 in
    let made : ℕ × ℕ = (m.0, n.0) in
    let parts : a ∷ b ∷ [] ≡ pair_words made = ap (λ (x : List ℕ). x ∷ b ∷ []) u.0 ∙ ap (λ (x : List ℕ). decimal m.0 ∷ x ∷ []) v.0 in
    subst (λ (y : ℕ × ℕ). (a ∷ b ∷ [] ≡ pair_words y) × FitsPair y) s.1 (parts, record { first = u.1; second = v.1; none = s.0 })

pair_made : (m n : ℕ) (s t : Bool) → eqb m 0 ≡ s → eqb n 0 ≡ t → (m ≡ 0 → n ≡ 0) → cond {A = Option (ℕ × ℕ)} (s && not t) None (Some (m, n)) ≡ Some (m, n)
pair_made m n true true e f w = refl
pair_made m n true false e f w = absurd (eqb-false n 0 f (w (eqb-true m 0 e)))
pair_made m n false t e f w = refl

pair_again : (p : ℕ × ℕ) → FitsPair p → pair_of (decimal p.0) (decimal p.1) ≡ Some p
pair_again p f =
    ap (option_and_then (λ m. option_and_then (λ n. pair_by m n) (number_of most (decimal p.1)))) (number_again most p.0 (lit< tt) f.first)
    ∙ ap (option_and_then (λ n. pair_by p.0 n)) (number_again most p.1 (lit< tt) f.second)
    ∙ pair_made p.0 p.1 (eqb p.0 0) (eqb p.1 0) refl refl f.none

pair_are_words : (p : ℕ × ℕ) → FitsPair p → AllByRecursion IsWord (pair_words p)
pair_are_words p f = (number_word p.0 (omega (arith, f.first)), (number_word p.1 (omega (arith, f.second)), tt))

pub law_pair : (tag : List ℕ) → IsWord tag → IsLineOf (λ p. (tag ∷ []) ++ pair_words p) FitsPair (tagged_pair_of tag)
law_pair tag tag_word = record {
  takes = λ l p e.
      let a = and_then_some (λ q. cond (bytes_eq q.0 tag) (pair_of q.1 q.2) None) (three_of l) p e in
      let c = chosen (bytes_eq a.0.0 tag) (pair_of a.0.1 a.0.2) p a.2 in
      let t = pair_takes a.0.1 a.0.2 p c.1 in
      (three_is l a.0 a.1 ∙ ap (λ (x : List ℕ). x ∷ a.0.1 ∷ a.0.2 ∷ []) (same_bytes a.0.0 tag c.0) ∙ ap (λ (x : Line). tag ∷ x) t.0, t.1);
  again = λ p f. ap (λ (t : Bool). cond t (pair_of (decimal p.0) (decimal p.1)) None) (bytes_same tag) ∙ pair_again p f;
  line = λ p f. (omega arith, (tag_word, pair_are_words p f));
}

abbrev step_rest : ℕ → List ℕ × List ℕ × List ℕ × List ℕ → Option (ℕ × ℕ)
step_rest i q = cond (bytes_eq q.1 (decimal i)) (pair_of q.2 q.3) None

law_step : (i : ℕ) → i ≤ most → IsLineOf (λ p. (codes "step" ∷ decimal i ∷ []) ++ pair_words p) FitsPair (step_of i)
law_step i le = record {
  takes = λ l p e.
      let a = and_then_some (λ q. cond (bytes_eq q.0 (codes "step")) (step_rest i q) None) (four_of l) p e in
      let c = chosen (bytes_eq a.0.0 (codes "step")) (step_rest i a.0) p a.2 in
      let d = chosen (bytes_eq a.0.1 (decimal i)) (pair_of a.0.2 a.0.3) p c.1 in
      let t = pair_takes a.0.2 a.0.3 p d.1 in (
        four_is l a.0 a.1 ∙ ap (λ (x : List ℕ). x ∷ a.0.1 ∷ a.0.2 ∷ a.0.3 ∷ []) (same_bytes a.0.0 (codes "step") c.0)
            ∙ ap (λ (x : List ℕ). codes "step" ∷ x ∷ a.0.2 ∷ a.0.3 ∷ []) (same_bytes a.0.1 (decimal i) d.0) ∙ ap (λ (x : Line). codes "step" ∷ decimal i ∷ x) t.0,
        t.1,
      );
  again = λ p f.
      ap (λ (t : Bool). cond t (step_rest i (codes "step", decimal i, decimal p.0, decimal p.1)) None) (bytes_same (codes "step"))
      ∙ ap (λ (t : Bool). cond t (pair_of (decimal p.0) (decimal p.1)) None) (bytes_same (decimal i)) ∙ pair_again p f;
  line = λ p f. (omega arith, (word_from (codes "step") refl, (number_word i (omega (arith, le)), pair_are_words p f)));
}

-- ---- a line of a proof

plain_said : (x : PlainLine) → plain_line (said x) ≡ x
plain_said (Addition id lits hints) = refl
plain_said (Deletion id ids) = refl

said_plain : (x : ProofLine) → said (plain_line x) ≡ x
said_plain (addition id lits hints) = refl
said_plain (deletion id ids) = refl

abbrev FitsSaid : ProofLine → Type 0
FitsSaid x = FitsLine (plain_line x)

law_said : IsLineOf proof_line FitsSaid (λ l. option_map said (lrat_of l))
law_said = record {
  takes = λ l x e.
      let m = map_some said (lrat_of l) x e in
      let t = law_lrat.takes l m.0 m.1 in
      let q : m.0 ≡ plain_line x = sym (plain_said m.0) ∙ ap plain_line m.2 in
      (t.0 ∙ ap Rattle.proof_lines.specs.Spelling.line_words q, subst FitsLine q t.1);
  again = λ x f. ap (option_map said) (law_lrat.again (plain_line x) f) ∙ ap (λ (y : ProofLine). Some y) (said_plain x);
  line = λ x f. law_lrat.line (plain_line x) f;
}

record Within (left : ℕ) (last : Bool) (x : ProofLine) : Type 0 where
  line : FitsSaid x
  room : added x ≤ left
  done : last ≡ true → added x ≡ left

or_true : (a b : Bool) → (not a || b) ≡ true → a ≡ true → b ≡ true
or_true true b e h = e
or_true false b e h = absurd cc

or_made : (a b : Bool) → (a ≡ true → b ≡ true) → (not a || b) ≡ true
or_made true b h = h refl
or_made false b h = refl

within_law : (left : ℕ) (last : Bool) → IsLineOf proof_line (Within left last) (line_within left last)
unfolding line_within
within_law left last = record {
  takes = λ l x e.
      let a = and_then_some (λ x. cond (leb (added x) left && (not last || eqb (added x) left)) (Some x) None) (option_map said (lrat_of l)) x e in
      let c = chosen (leb (added a.0) left && (not last || eqb (added a.0) left)) (Some a.0) x a.2 in
      let p = and_parts (leb (added a.0) left) (not last || eqb (added a.0) left) c.0 in
      let t = law_said.takes l a.0 a.1 in
      subst (λ (y : ProofLine). (l ≡ proof_line y) × Within left last y) (some_is a.0 x c.1) (t.0, record { line = t.1; room = leb-true (added a.0) left p.0; done = λ h. eqb-true (added a.0) left (or_true last (eqb (added a.0) left) p.1 h) });
  again = λ x f.
      let test : (leb (added x) left && (not last || eqb (added x) left)) ≡ true = and_from (leb (added x) left) (not last || eqb (added x) left) (le-leb (added x) left f.room) (or_made last (eqb (added x) left) (λ h. eq-eqb (added x) left (f.done h))) in
      ap (option_and_then (λ x. cond (leb (added x) left && (not last || eqb (added x) left)) (Some x) None)) (law_said.again x f.line) ∙ ap (λ (t : Bool). cond t (Some x) None) test;
  line = λ x f. law_said.line x f.line;
}

-- a line that adds what is left
ones : ℕ → List Literal
ones zero = []
ones (suc n) = record { variable = 1; positive = true } ∷ ones n

ones_fit : (n : ℕ) → AllByRecursion IsLiteral (ones n)
unfolding ones
ones_fit zero = tt
ones_fit (suc n) = ((omega arith, lit< tt), ones_fit n)

ones_length : (n : ℕ) → length (ones n) ≡ n
unfolding ones
ones_length zero = refl
ones_length (suc n) = ap suc (ones_length n)

a_line : (left : ℕ) (last : Bool) → (x : ProofLine) × Within left last x
a_line left last = (addition 1 (ones left) [], record { line = ((omega arith, lit< tt), ones_fit left, tt); room = omega (arith, ones_length left); done = λ h. ones_length left })

-- ---- the lines of a proof

record HasLines (k left : ℕ) (xs : List ProofLine) : Type 0 where
  lines : AllByRecursion FitsSaid xs
  count : length xs ≡ k
  total : all_added xs ≡ left

abbrev first_line : List ProofLine → ProofLine
first_line xs = head_or (deletion 1 []) xs

last_adds : (k left : ℕ) (x : ProofLine) (xs : List ProofLine) → length xs ≡ k → added x + all_added xs ≡ left → k ≡ 0 → added x ≡ left
last_adds k left x [] n s z = omega (arith, s)
last_adds k left x (y ∷ ys) n s z = absurd (omega (arith, n, z))

all_used : (k left : ℕ) (x : ProofLine) → k ≡ 0 → Within left (eqb k 0) x → left - added x ≡ 0
all_used k left x h w = omega (arith, w.done (eq-eqb k 0 h))

lines_back : (k left : ℕ) (z : List ProofLine) → HasLines (suc k) left z
    → Within left (eqb k 0) (first_line z) × (HasLines k (left - added (first_line z)) (tail_list z) × (z ≡ first_line z ∷ tail_list z))
lines_back k left [] f = absurd (omega (arith, f.count))
lines_back k left (x ∷ xs) f =
    let n : length xs ≡ k = omega (arith, f.count) in
    let s : added x + all_added xs ≡ left = sym (sum_by-cons added x xs) ∙ f.total in
    (record { line = f.lines.0; room = omega (arith, s); done = λ h. last_adds k left x xs n s (eqb-true k 0 h) }, (record { lines = f.lines.1; count = n; total = omega (arith, s) }, refl))

lines_to : (k left : ℕ) (z : List ProofLine) → Within left (eqb k 0) (first_line z) → HasLines k (left - added (first_line z)) (tail_list z) → z ≡ first_line z ∷ tail_list z → HasLines (suc k) left z
lines_to k left [] w f e = absurd cc
lines_to k left (x ∷ xs) w f e =
    let s : added x + all_added xs ≡ left = omega (arith, f.total, w.room) in
    record { lines = (w.line, f.lines); count = ap suc f.count; total = sum_by-cons added x xs ∙ s }

lines_same : (z : List ProofLine) → z ≡ first_line z ∷ tail_list z → (proof_line (first_line z) ∷ []) ++ (map proof_line (tail_list z) ++ []) ≡ map proof_line z
lines_same [] e = absurd cc
lines_same (x ∷ xs) e = ap (λ (l : List Line). proof_line x ∷ l) (append-nil (map proof_line xs))

lines_law : (k left : ℕ) → (k ≡ 0 → left ≡ 0) → IsReaderOf (map proof_line) (λ _ xs. HasLines k left xs) (lines_from k left)
lines_law zero left none =
    law_as (λ _. []) (map proof_line) (λ _ y. y ≡ []) (λ _ xs. HasLines 0 left xs) (lines_from 0 left) (law_done [])
    (λ n x f. ap (map proof_line) (sym f)) (λ n x f. subst (λ (y : List ProofLine). HasLines 0 left y) (sym f) (record { lines = tt; count = refl; total = sym (none refl) })) (λ n x f. nil_from_length x f.count)
lines_law (suc k) left none =
    let inner = λ (x : ProofLine) (w : Within left (eqb k 0) x). law_then (map proof_line) (λ _ xs. HasLines k (left - added x) xs) (lines_from k (left - added x)) (λ _ _. []) (λ xs _ z. z ≡ x ∷ xs) (λ xs u. Ok (x ∷ xs, u)) tail_list
    (lines_law k (left - added x) (λ h. all_used k left x h w)) (λ n xs f. law_done (x ∷ xs)) (λ xs n z f. ap tail_list f) in
    let whole = law_then (λ x. proof_line x ∷ []) (λ _ x. Within left (eqb k 0) x) (line_by (line_within left (eqb k 0))) (λ _ z. map proof_line (tail_list z) ++ []) (λ x _ z. HasLines k (left - added x) (tail_list z) × (z ≡ x ∷ tail_list z)) (λ x u. lines_from k (left - added x) u >>= λ xs. Ok (x ∷ xs.0, xs.1)) first_line
    (law_line proof_line (Within left (eqb k 0)) (line_within left (eqb k 0)) (within_law left (eqb k 0)) (a_line left (eqb k 0))) (λ n x w. inner x w) (λ x n z f. ap first_line f.1) in
    law_as (λ z. (proof_line (first_line z) ∷ []) ++ (map proof_line (tail_list z) ++ [])) (map proof_line)
    (λ _ z. Within left (eqb k 0) (first_line z) × (HasLines k (left - added (first_line z)) (tail_list z) × (z ≡ first_line z ∷ tail_list z)))
    (λ _ xs. HasLines (suc k) left xs) (lines_from (suc k) left) whole
    (λ n z f. lines_same z f.1.1) (λ n z f. lines_to k left z f.0 f.1.0 f.1.1) (λ n z f. lines_back k left z f)

-- ---- a proof behind its head

abbrev sizes : List ProofLine → ℕ × ℕ
sizes xs = (length xs, all_added xs)

empty_adds : (xs : List ProofLine) → length xs ≡ 0 → all_added xs ≡ 0
empty_adds [] e = refl
empty_adds (x ∷ xs) e = absurd (omega arith)

sizes_are : (h : ℕ × ℕ) (xs : List ProofLine) → HasLines h.0 h.1 xs → sizes xs ≡ h
sizes_are h xs f = ap (λ (n : ℕ). (n, all_added xs)) f.count ∙ ap (λ (n : ℕ). (h.0, n)) f.total

proof_reader : (head : Line) (f : Line → Option (ℕ × ℕ)) → IsLineOf (λ p. head ++ pair_words p) FitsPair f → IsReaderOf (proof_lines head) (λ _ xs. FitsProof xs) (proof_at f)
unfolding proof_at
proof_reader head f law = law_as (λ xs. ((head ++ pair_words (sizes xs)) ∷ []) ++ map proof_line xs) (proof_lines head) (λ _ xs. FitsPair (sizes xs) × HasLines (length xs) (all_added xs) xs) (λ _ xs. FitsProof xs) (proof_at f)
    (law_then (λ p. (head ++ pair_words p) ∷ []) (λ _ p. FitsPair p) (line_by f) (λ _ xs. map proof_line xs) (λ p _ xs. HasLines p.0 p.1 xs) (λ p s. lines_from p.0 p.1 s) sizes
    (law_line (λ p. head ++ pair_words p) FitsPair f law ((0, 0), no_pair)) (λ n p g. lines_law p.0 p.1 g.none) (λ p n xs g. sizes_are p xs g))
    (λ n xs g. refl)
    (λ n xs g. record { lines = g.1.lines; count = omega (arith, g.0.first); added = omega (arith, g.0.second) })
    (λ n xs g. (record { first = omega (arith, g.count); second = omega (arith, g.added); none = λ e. empty_adds xs e }, record { lines = g.lines; count = refl; total = refl }))

pub step_reader : (i : ℕ) → i ≤ most → IsReaderOf (proof_lines (codes "step" ∷ decimal i ∷ [])) (λ _ xs. FitsProof xs) (proof_at (step_of i))
step_reader i le = proof_reader (codes "step" ∷ decimal i ∷ []) (step_of i) (law_step i le)

pub hit_reader : IsReaderOf (proof_lines (codes "hit" ∷ [])) (λ _ xs. FitsProof xs) (proof_at (tagged_pair_of (codes "hit")))
hit_reader = proof_reader (codes "hit" ∷ []) (tagged_pair_of (codes "hit")) (law_pair (codes "hit") (word_from (codes "hit") refl))
