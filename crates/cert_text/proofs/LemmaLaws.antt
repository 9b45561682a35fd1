-- Lemmas as lines.
use Rattle.std.proofs.Common.{◌≡◌, ℕ, ◌^◌, ◌<◌, Bool, true, false, not, cond, eqb, List, [], ◌∷◌, ◌++◌, length, map, Some, None, option_map, refl, sym, ap, subst, ◌∙◌, append_assoc, arith, lit<, codes, decimal}
use Rattle.std.specs.Prelude.{option_and_then}
use Rattle.std.specs.List.{AllByRecursion}
use Rattle.std.specs.Str.{bytes_eq}
use Rattle.std.proofs.lemmas.Bool.{eqb-true, and_parts, not-true, false_from_ne_true}
use Rattle.std.proofs.lemmas.List.{append-nil}
use Rattle.bit_system.specs.declared.ladder.Depth.{Depth}
use Rattle.bit_system.specs.declared.ladder.Depth.TheVariants.{All, Steps}
use Rattle.line_text.specs.Lines.{Line, IsWord}
use Rattle.line_text.specs.Number.{number_of}
use Rattle.line_text.specs.Reading.{line_by}
use Rattle.line_text.proofs.Laws.{IsLineOf, IsReaderOf, law_line, some_is}
use Rattle.line_text.proofs.Numerals.{number_takes, number_again, number_word}
use Rattle.line_text.proofs.Words.{and_then_some, map_some, chosen, same_bytes, bytes_same, word_from}
use Rattle.cert_text.specs.declared.cert.NamedLit.{NamedLit}
use Rattle.cert_text.specs.declared.cert.NamedLemma.{NamedLemma}
use Rattle.cert_text.specs.Points.{begins_with, is_name, is_state_name, IsStateName}
use Rattle.cert_text.specs.Spelling.{lit_word, level_word, lemma_line, FitsLevel, FitsLemma}
use Rattle.cert_text.specs.Ladders.{named_lit, lit_of, lits_after, lits_of, level_of, behind_l, lemma_of}
use Rattle.cert_text.proofs.Names.{name_word}

abbrev most : ℕ
most = 9223372036854775807

-- ---- literals

abbrev make_lit : Bool → List ℕ → NamedLit
make_lit positive name = record { name = name; positive = positive }

abbrev FitsLit : NamedLit → Type 0
FitsLit l = IsStateName l.name

lit_by : (b : ℕ) (bs : List ℕ) (x : NamedLit) (t : Bool) → eqb b 45 ≡ t → cond t (named_lit false bs) (named_lit true (b ∷ bs)) ≡ Some x → (b ∷ bs ≡ lit_word x) × FitsLit x
lit_by b bs x true e h =
    let c = chosen (is_state_name bs) (Some (make_lit false bs)) x h in
    subst (λ (y : NamedLit). (b ∷ bs ≡ lit_word y) × FitsLit y) (some_is (make_lit false bs) x c.1) (ap (λ (a : ℕ). a ∷ bs) (eqb-true b 45 e), c.0)
lit_by b bs x false e h =
    let c = chosen (is_state_name (b ∷ bs)) (Some (make_lit true (b ∷ bs))) x h in
    subst (λ (y : NamedLit). (b ∷ bs ≡ lit_word y) × FitsLit y) (some_is (make_lit true (b ∷ bs)) x c.1) (refl, c.0)

lit_takes : (w : List ℕ) (x : NamedLit) → lit_of w ≡ Some x → (w ≡ lit_word x) × FitsLit x
unfolding lit_of
lit_takes [] x e = absurd cc
lit_takes (b ∷ bs) x e = lit_by b bs x (eqb b 45) refl e

lit_again : (positive : Bool) (name : List ℕ) → IsStateName name → lit_of (lit_word (make_lit positive name)) ≡ Some (make_lit positive name)
unfolding lit_of
lit_again false name f = ap (λ (t : Bool). cond t (Some (make_lit false name)) None) f
lit_again true [] f = absurd cc
lit_again true (b ∷ bs) f =
    let p = and_parts (is_name (b ∷ bs)) (not (begins_with 45 (b ∷ bs))) f in
    ap (λ (t : Bool). cond t (named_lit false bs) (named_lit true (b ∷ bs))) (not-true (eqb b 45) p.1) ∙ ap (λ (t : Bool). cond t (Some (make_lit true (b ∷ bs))) None) f

lit_is_word : (positive : Bool) (name : List ℕ) → IsStateName name → IsWord (lit_word (make_lit positive name))
lit_is_word true name f = name_word name (and_parts (is_name name) (not (begins_with 45 name)) f).0
lit_is_word false name f = let w = name_word name (and_parts (is_name name) (not (begins_with 45 name)) f).0 in ((refl, w.0), (refl, w.1))

record Lits (seen : List NamedLit) (ws : Line) (xs : List NamedLit) : Type 0 where
  new : List NamedLit
  all : xs ≡ seen ++ new
  parts : ws ≡ map lit_word new
  fits : AllByRecursion FitsLit new

lits_take : (ws : Line) (seen xs : List NamedLit) → lits_after seen ws ≡ Some xs → Lits seen ws xs
lits_take [] seen xs e = record { new = []; all = sym (some_is seen xs e) ∙ sym (append-nil seen); parts = refl; fits = tt }
lits_take (w ∷ ws) seen xs e =
    let a = and_then_some (λ x. lits_after (seen ++ x ∷ []) ws) (lit_of w) xs e in
    let i = lits_take ws (seen ++ a.0 ∷ []) xs a.2 in
    let t = lit_takes w a.0 a.1 in
    record {
      new = a.0 ∷ i.new;
      all = i.all ∙ append_assoc seen (a.0 ∷ []) i.new;
      parts = ap (λ (v : List ℕ). v ∷ ws) t.0 ∙ ap (λ (l : Line). lit_word a.0 ∷ l) i.parts;
      fits = (t.1, i.fits);
    }

lits_again_after : (xs seen : List NamedLit) → AllByRecursion FitsLit xs → lits_after seen (map lit_word xs) ≡ Some (seen ++ xs)
lits_again_after [] seen f = ap (λ (y : List NamedLit). Some y) (sym (append-nil seen))
lits_again_after (x ∷ xs) seen f =
    ap (option_and_then (λ x. lits_after (seen ++ x ∷ []) (map lit_word xs))) (lit_again x.positive x.name f.0)
    ∙ lits_again_after xs (seen ++ x ∷ []) f.1 ∙ ap (λ (y : List NamedLit). Some y) (append_assoc seen (x ∷ []) xs)

abbrev SomeLits : Line → List NamedLit → Type 0
SomeLits ws xs = (ws ≡ map lit_word xs) × (0 < length xs) × AllByRecursion FitsLit xs

some_lits : (w : List ℕ) (ws : Line) (xs : List NamedLit) → w ∷ ws ≡ map lit_word xs → AllByRecursion FitsLit xs → SomeLits (w ∷ ws) xs
some_lits w ws [] e f = absurd cc
some_lits w ws (x ∷ xs) e f = (e, omega arith, f)

lits_of_takes : (ws : Line) (xs : List NamedLit) → lits_of ws ≡ Some xs → SomeLits ws xs
lits_of_takes [] xs e = absurd cc
lits_of_takes (w ∷ ws) xs e =
    let t = lits_take (w ∷ ws) [] xs e in
    subst (λ (ys : List NamedLit). SomeLits (w ∷ ws) ys) (sym t.all) (some_lits w ws t.new t.parts t.fits)

lits_of_again : (xs : List NamedLit) → 0 < length xs → AllByRecursion FitsLit xs → lits_of (map lit_word xs) ≡ Some xs
lits_of_again [] lt f = absurd (omega (arith, lt))
lits_of_again (x ∷ xs) lt f = lits_again_after (x ∷ xs) [] f

lits_are_words : (xs : List NamedLit) → AllByRecursion FitsLit xs → AllByRecursion IsWord (map lit_word xs)
lits_are_words [] f = tt
lits_are_words (x ∷ xs) f = (lit_is_word x.positive x.name f.0, lits_are_words xs f.1)

-- ---- levels

abbrev LevelFits : Bool → Depth → Type 0
LevelFits forever d = FitsLevel d × (forever ≡ true → d ≡ All)

level_by : (forever : Bool) (w : List ℕ) (d : Depth) (t : Bool) → bytes_eq w (codes "all") ≡ t → cond t (Some All) (cond forever None (option_map Steps (number_of most w))) ≡ Some d → (w ≡ level_word d) × LevelFits forever d
level_by forever w d true e h = subst (λ (x : Depth). (w ≡ level_word x) × LevelFits forever x) (some_is All d h) (same_bytes w (codes "all") e, (tt, λ _. refl))
level_by true w d false e h = absurd cc
level_by false w d false e h =
    let m = map_some Steps (number_of most w) d h in
    let t = number_takes most w m.0 (lit< tt) m.1 in
    subst (λ (x : Depth). (w ≡ level_word x) × LevelFits false x) m.2 (t.0, (omega (arith, t.1), λ e. absurd cc))

no_number : number_of most (codes "all") ≡ None
unfolding number_of
no_number = refl

number_none : (n : ℕ) → None ≡ Some n → ⊥
number_none n e = cc

-- digits aren't that word
apart : (n : ℕ) → n < 2 ^ 63 → bytes_eq (decimal n) (codes "all") ≡ false
apart n lt = false_from_ne_true (bytes_eq (decimal n) (codes "all")) (λ t.
    number_none n (sym no_number ∙ ap (number_of most) (sym (same_bytes (decimal n) (codes "all") t)) ∙ number_again most n (lit< tt) (omega (arith, lt))))

not_all : (n : ℕ) → Steps n ≡ All → ⊥
not_all n e = cc

level_again : (forever : Bool) (d : Depth) → LevelFits forever d → level_of forever (level_word d) ≡ Some d
level_again forever All f = refl
level_again true (Steps n) f = absurd (not_all n (f.1 refl))
level_again false (Steps n) f =
    ap (λ (t : Bool). cond t (Some All) (option_map Steps (number_of most (decimal n)))) (apart n f.0)
    ∙ ap (option_map Steps) (number_again most n (lit< tt) (omega (arith, f.0)))

level_is_word : (d : Depth) → FitsLevel d → IsWord (level_word d)
level_is_word All f = word_from (codes "all") refl
level_is_word (Steps n) f = number_word n (omega (arith, f))

-- ---- lemmas

abbrev make_lemma : Depth → List NamedLit → NamedLemma
make_lemma level lits = record { level = level; lits = lits }

abbrev pub LemmaFits : Bool → NamedLemma → Type 0
LemmaFits forever m = FitsLemma m × (forever ≡ true → m.level ≡ All)

behind_takes : (forever : Bool) (ws : Line) (x : NamedLemma) → behind_l forever ws ≡ Some x → (codes "l" ∷ ws ≡ lemma_line x) × LemmaFits forever x
behind_takes forever [] x e = absurd cc
behind_takes forever (w ∷ ws) x e =
    let a = and_then_some (λ level. option_map (make_lemma level) (lits_of ws)) (level_of forever w) x e in
    let m = map_some (make_lemma a.0) (lits_of ws) x a.2 in
    let t = level_by forever w a.0 (bytes_eq w (codes "all")) refl a.1 in
    let s = lits_of_takes ws m.0 m.1 in
    subst (λ (y : NamedLemma). (codes "l" ∷ w ∷ ws ≡ lemma_line y) × LemmaFits forever y) m.2
    (ap (λ (v : List ℕ). codes "l" ∷ v ∷ ws) t.0 ∙ ap (λ (l : Line). codes "l" ∷ level_word a.0 ∷ l) s.0, (record { level = t.1.0; some = s.1; names = s.2 }, t.1.1))

lemma_takes : (forever : Bool) (l : Line) (x : NamedLemma) → lemma_of forever l ≡ Some x → (l ≡ lemma_line x) × LemmaFits forever x
unfolding lemma_of
lemma_takes forever [] x e = absurd cc
lemma_takes forever (w ∷ ws) x e =
    let c = chosen (bytes_eq w (codes "l")) (behind_l forever ws) x e in
    let t = behind_takes forever ws x c.1 in
    (ap (λ (v : List ℕ). v ∷ ws) (same_bytes w (codes "l") c.0) ∙ t.0, t.1)

lemma_again : (forever : Bool) (x : NamedLemma) → LemmaFits forever x → lemma_of forever (lemma_line x) ≡ Some x
unfolding lemma_of
lemma_again forever x f =
    ap (λ (t : Bool). cond t (behind_l forever (level_word x.level ∷ map lit_word x.lits)) None) (bytes_same (codes "l"))
    ∙ ap (option_and_then (λ level. option_map (make_lemma level) (lits_of (map lit_word x.lits)))) (level_again forever x.level (f.0.level, f.1))
    ∙ ap (option_map (make_lemma x.level)) (lits_of_again x.lits f.0.some f.0.names)

law_lemma : (forever : Bool) → IsLineOf lemma_line (LemmaFits forever) (lemma_of forever)
law_lemma forever = record {
  takes = lemma_takes forever;
  again = lemma_again forever;
  line = λ x f. (omega arith, (word_from (codes "l") refl, (level_is_word x.level f.0.level, lits_are_words x.lits f.0.names)));
}

pub lemma_reader : (forever : Bool) → IsReaderOf (λ m. lemma_line m ∷ []) (λ _ m. LemmaFits forever m) (line_by (lemma_of forever))
lemma_reader forever =
    law_line lemma_line (LemmaFits forever) (lemma_of forever) (law_lemma forever) (make_lemma All (make_lit true (codes "a") ∷ []), (record { level = tt; some = omega arith; names = (refl, tt) }, λ _. refl))
