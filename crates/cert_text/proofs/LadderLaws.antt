-- What is read of a ladder is what it spells.
use Rattle.std.proofs.Common.{◌≡◌, ℕ, zero, suc, ◌+◌, ◌≤◌, Bool, true, false, cond, eqb, List, [], ◌∷◌, ◌++◌, length, map, Option, Some, None, Ok, refl, sym, ap, subst, ◌∙◌, append_assoc, arith, codes, decimal}
use Rattle.std.specs.List.{AllByRecursion}
use Rattle.std.proofs.lemmas.Bool.{eqb-true, eqb-false}
use Rattle.bit_system.specs.declared.ladder.Depth.TheVariants.{All}
use Rattle.bit_system.specs.ProofLines.{ProofLine}
use Rattle.line_text.specs.Lines.{Line, Source}
use Rattle.line_text.specs.Reading.{Read, ◌>>=◌, line_by, times}
use Rattle.line_text.specs.Tagged.{alone_of}
use Rattle.line_text.proofs.Laws.{IsReaderOf, law_line, law_then, law_done, law_as, law_times, law_times_below, spell_from, FitFrom}
use Rattle.line_text.proofs.Words.{law_alone, word_from}
use Rattle.cert_text.specs.declared.cert.NamedLemma.{NamedLemma}
use Rattle.cert_text.specs.declared.cert.NamedLadder.{NamedLadder}
use Rattle.cert_text.specs.Spelling.{lemma_line, proof_lines, step_lines, hit_lines, ladder_lines, FitsLemma, FitsProof, FitsLadder, empty_ladder, FitsCycles}
use Rattle.cert_text.specs.Ladders.{lemma_of, step_of, hit_of, proof_at, ladder_at, no_ladder_at, cycles_at}
use Rattle.cert_text.proofs.LemmaLaws.{LemmaFits, lemma_reader}
use Rattle.cert_text.proofs.ProofLaws.{step_reader, hit_reader}

abbrev most : ℕ
most = 9223372036854775807

-- ---- lemmas

abbrev lemma_spell : ℕ → NamedLemma → List Line
lemma_spell i m = lemma_line m ∷ []

abbrev LemmasFit : Bool → ℕ → ℕ → List NamedLemma → Type 0
LemmasFit forever count n ms = (length ms ≡ count) × FitFrom lemma_spell (λ _ _ m. LemmaFits forever m) 0 n ms

lemmas_reader : (forever : Bool) (count : ℕ) → IsReaderOf (spell_from lemma_spell 0) (LemmasFit forever count) (times count 0 (λ _. line_by (lemma_of forever)))
lemmas_reader forever count = law_times lemma_spell (λ _ _ m. LemmaFits forever m) (λ _. line_by (lemma_of forever)) (λ _. lemma_reader forever) count 0

lemmas_same : (i : ℕ) (ms : List NamedLemma) → spell_from lemma_spell i ms ≡ map lemma_line ms
lemmas_same i [] = refl
lemmas_same i (m ∷ ms) = ap (λ (ls : List Line). lemma_line m ∷ ls) (lemmas_same (i + 1) ms)

lemmas_to : (forever : Bool) (i n : ℕ) (ms : List NamedLemma) → FitFrom lemma_spell (λ _ _ m. LemmaFits forever m) i n ms → AllByRecursion FitsLemma ms
lemmas_to forever i n [] f = tt
lemmas_to forever i n (m ∷ ms) f = (f.0.0, lemmas_to forever (i + 1) (n + 1) ms f.1)

levels_to : (i n : ℕ) (ms : List NamedLemma) → FitFrom lemma_spell (λ _ _ m. LemmaFits true m) i n ms → AllByRecursion (λ m. m.level ≡ All) ms
levels_to i n [] f = tt
levels_to i n (m ∷ ms) f = (f.0.1 refl, levels_to (i + 1) (n + 1) ms f.1)

lemmas_back : (i n : ℕ) (ms : List NamedLemma) → AllByRecursion FitsLemma ms → FitFrom lemma_spell (λ _ _ m. LemmaFits false m) i n ms
lemmas_back i n [] f = tt
lemmas_back i n (m ∷ ms) f = ((f.0, λ e. absurd cc), lemmas_back (i + 1) (n + 1) ms f.1)

levels_back : (i n : ℕ) (ms : List NamedLemma) → AllByRecursion FitsLemma ms → AllByRecursion (λ m. m.level ≡ All) ms → FitFrom lemma_spell (λ _ _ m. LemmaFits true m) i n ms
levels_back i n [] f g = tt
levels_back i n (m ∷ ms) f g = ((f.0, λ _. g.0), levels_back (i + 1) (n + 1) ms f.1 g.1)

-- ---- their proofs

abbrev step_spell : ℕ → List ProofLine → List Line
step_spell i proof = proof_lines (codes "step" ∷ decimal (i + 1) ∷ []) proof

abbrev StepsFit : ℕ → ℕ → List (List ProofLine) → Type 0
StepsFit count n ps = (length ps ≡ count) × FitFrom step_spell (λ _ _ p. FitsProof p) 0 n ps

abbrev steps_of : ℕ → Source → Read (List (List ProofLine))
steps_of count = times count 0 (λ i. proof_at (step_of (i + 1)))

steps_reader : (count : ℕ) → count ≤ most → IsReaderOf (spell_from step_spell 0) (StepsFit count) (steps_of count)
steps_reader count le = law_times_below most step_spell (λ _ _ p. FitsProof p) (λ i. proof_at (step_of (i + 1))) (λ i lt. step_reader (i + 1) (omega (arith, lt))) count 0 (omega (arith, le))

steps_same : (i : ℕ) (ps : List (List ProofLine)) → spell_from step_spell i ps ≡ step_lines (i + 1) ps
steps_same i [] = refl
steps_same i (p ∷ ps) = ap (λ (ls : List Line). step_spell i p ++ ls) (steps_same (i + 1) ps)

steps_to : (i n : ℕ) (ps : List (List ProofLine)) → FitFrom step_spell (λ _ _ p. FitsProof p) i n ps → AllByRecursion FitsProof ps
steps_to i n [] f = tt
steps_to i n (p ∷ ps) f = (f.0, steps_to (i + 1) (n + length (step_spell i p)) ps f.1)

steps_back : (i n : ℕ) (ps : List (List ProofLine)) → AllByRecursion FitsProof ps → FitFrom step_spell (λ _ _ p. FitsProof p) i n ps
steps_back i n [] f = tt
steps_back i n (p ∷ ps) f = (f.0, steps_back (i + 1) (n + length (step_spell i p)) ps f.1)

-- ---- the end

abbrev make_ladder : List NamedLemma → List (List ProofLine) → List ProofLine → NamedLadder
make_ladder lemmas steps hit = record { lemmas = lemmas; steps = steps; hit = Some hit }

abbrev end_lines : List Line
end_lines = (codes "end" ∷ []) ∷ []

end_reader : IsReaderOf (λ _. end_lines) (λ _ _. Unit {0}) (line_by (alone_of (codes "end")))
end_reader = law_line (λ _. codes "end" ∷ []) (λ _. Unit {0}) (alone_of (codes "end")) (law_alone (codes "end") (word_from (codes "end") refl)) (tt, tt)

abbrev read_end : NamedLadder → Source → Read NamedLadder
read_end l s = line_by (alone_of (codes "end")) s >>= λ last. Ok (l, last.1)

ends : (l : NamedLadder) → IsReaderOf (λ _. end_lines ++ []) (λ _ z. Unit {0} × (z ≡ l)) (read_end l)
ends l = law_then (λ _. end_lines) (λ _ _. Unit {0}) (line_by (alone_of (codes "end"))) (λ _ _. []) (λ _ _ z. z ≡ l) (λ _ s. Ok (l, s)) (λ z. tt) end_reader (λ n x f. law_done l) (λ x n z f. refl)

-- ---- the proof of the hit, and the end

abbrev proof_or : Option (List ProofLine) → List ProofLine
proof_or None = []
proof_or (Some proof) = proof

abbrev hit_or : NamedLadder → List ProofLine
hit_or z = proof_or z.hit

abbrev hit_spell : NamedLadder → List Line
hit_spell z = proof_lines (codes "hit" ∷ []) (hit_or z) ++ (end_lines ++ [])

abbrev HitFits : List NamedLemma → List (List ProofLine) → NamedLadder → Type 0
HitFits ms ps z = FitsProof (hit_or z) × (Unit {0} × (z ≡ make_ladder ms ps (hit_or z)))

abbrev read_hit : List NamedLemma → List (List ProofLine) → Source → Read NamedLadder
read_hit ms ps s = proof_at hit_of s >>= λ hit. read_end (make_ladder ms ps hit.0) hit.1

hits : (ms : List NamedLemma) (ps : List (List ProofLine)) → IsReaderOf hit_spell (λ _ z. HitFits ms ps z) (read_hit ms ps)
hits ms ps = law_then (proof_lines (codes "hit" ∷ [])) (λ _ p. FitsProof p) (proof_at hit_of) (λ _ _. end_lines ++ []) (λ p _ z. Unit {0} × (z ≡ make_ladder ms ps p)) (λ p s. read_end (make_ladder ms ps p) s) hit_or
    hit_reader (λ n p f. ends (make_ladder ms ps p)) (λ p n z f. ap hit_or f.1)

-- ---- all proofs, and the end

abbrev proofs_spell : NamedLadder → List Line
proofs_spell z = spell_from step_spell 0 z.steps ++ hit_spell z

abbrev ProofsFit : ℕ → List NamedLemma → ℕ → NamedLadder → Type 0
ProofsFit count ms n z = StepsFit count n z.steps × HitFits ms z.steps z

abbrev read_proofs : ℕ → List NamedLemma → Source → Read NamedLadder
read_proofs count ms s = steps_of count s >>= λ steps. read_hit ms steps.0 steps.1

all_proofs : (count : ℕ) → count ≤ most → (ms : List NamedLemma) → IsReaderOf proofs_spell (ProofsFit count ms) (read_proofs count ms)
all_proofs count le ms = law_then (spell_from step_spell 0) (StepsFit count) (steps_of count) (λ _ z. hit_spell z) (λ ps _ z. HitFits ms ps z) (λ ps s. read_hit ms ps s) (λ z. z.steps)
    (steps_reader count le) (λ n ps f. hits ms ps) (λ ps n z f. ap (λ (y : NamedLadder). y.steps) f.1.1)

-- ---- ladders

-- a ladder with so many lemmas, whose levels are `all` where it is for all cycles
pub record LadderOf (forever : Bool) (count : ℕ) (z : NamedLadder) : Type 0 where
  pub fits : FitsLadder z
  pub counted : length z.lemmas ≡ count
  pub levels : forever ≡ true → AllByRecursion (λ m. m.level ≡ All) z.lemmas

abbrev all_spell : NamedLadder → List Line
all_spell z = spell_from lemma_spell 0 z.lemmas ++ proofs_spell z

abbrev AllFit : Bool → ℕ → ℕ → NamedLadder → Type 0
AllFit forever count n z = LemmasFit forever count n z.lemmas × ProofsFit count z.lemmas (n + length (spell_from lemma_spell 0 z.lemmas)) z

levels_all : (forever : Bool) (n : ℕ) (ms : List NamedLemma) → FitFrom lemma_spell (λ _ _ m. LemmaFits forever m) 0 n ms → forever ≡ true → AllByRecursion (λ m. m.level ≡ All) ms
levels_all true n ms f e = levels_to 0 n ms f
levels_all false n ms f e = absurd cc

from_levels : (forever : Bool) (n : ℕ) (ms : List NamedLemma) → AllByRecursion FitsLemma ms → (forever ≡ true → AllByRecursion (λ m. m.level ≡ All) ms) → FitFrom lemma_spell (λ _ _ m. LemmaFits forever m) 0 n ms
from_levels true n ms f g = levels_back 0 n ms f (g refl)
from_levels false n ms f g = lemmas_back 0 n ms f

ladder_to : (forever : Bool) (count : ℕ) → count ≤ most → (n : ℕ) (z : NamedLadder) → AllFit forever count n z → LadderOf forever count z
ladder_to forever count le n z f = record {
  fits = record {
    lemmas = lemmas_to forever 0 n z.lemmas f.0.1;
    count = omega (arith, le, f.0.0);
    paired = f.1.0.0 ∙ sym f.0.0;
    steps = steps_to 0 (n + length (spell_from lemma_spell 0 z.lemmas)) z.steps f.1.0.1;
    hit = (hit_or z, ap (λ (y : NamedLadder). y.hit) f.1.1.1.1, f.1.1.0);
  };
  counted = f.0.0;
  levels = levels_all forever n z.lemmas f.0.1;
}

hit_fits : (z : NamedLadder) (proof : List ProofLine) → z.hit ≡ Some proof → FitsProof proof → HitFits z.lemmas z.steps z
hit_fits z proof e f =
    let q : hit_or z ≡ proof = ap proof_or e in
    (subst FitsProof (sym q) f, (tt, ap (λ (h : Option (List ProofLine)). record { lemmas = z.lemmas; steps = z.steps; hit = h }) (e ∙ ap (λ (p : List ProofLine). Some p) (sym q))))

ladder_back : (forever : Bool) (count n : ℕ) (z : NamedLadder) → LadderOf forever count z → AllFit forever count n z
ladder_back forever count n z f = (
  (f.counted, from_levels forever n z.lemmas f.fits.lemmas f.levels),
  ((f.fits.paired ∙ f.counted, steps_back 0 (n + length (spell_from lemma_spell 0 z.lemmas)) z.steps f.fits.steps), hit_fits z f.fits.hit.0 f.fits.hit.1 f.fits.hit.2),
)

ladder_same : (z : NamedLadder) → z.hit ≡ Some (hit_or z) → all_spell z ≡ ladder_lines z
ladder_same z e =
    ap (λ (ls : List Line). ls ++ proofs_spell z) (lemmas_same 0 z.lemmas)
    ∙ ap (λ (ls : List Line). map lemma_line z.lemmas ++ (ls ++ hit_spell z)) (steps_same 0 z.steps)
    ∙ ap (λ (ls : List Line). map lemma_line z.lemmas ++ (step_lines 1 z.steps ++ (ls ++ end_lines))) (ap hit_lines (sym e))
    ∙ sym (append_assoc (map lemma_line z.lemmas) (step_lines 1 z.steps) (hit_lines z.hit ++ end_lines))
    ∙ sym (append_assoc (map lemma_line z.lemmas ++ step_lines 1 z.steps) (hit_lines z.hit) end_lines)

pub ladder_reader : (forever : Bool) (count : ℕ) → count ≤ most → IsReaderOf ladder_lines (λ _ z. LadderOf forever count z) (ladder_at forever count)
unfolding ladder_at
ladder_reader forever count le = law_as all_spell ladder_lines (AllFit forever count) (λ _ z. LadderOf forever count z) (ladder_at forever count)
    (law_then (spell_from lemma_spell 0) (LemmasFit forever count) (times count 0 (λ _. line_by (lemma_of forever))) (λ _ z. proofs_spell z) (λ ms n z. ProofsFit count ms n z) (λ ms s. read_proofs count ms s) (λ z. z.lemmas)
    (lemmas_reader forever count) (λ n ms f. all_proofs count le ms) (λ ms n z f. ap (λ (y : NamedLadder). y.lemmas) f.1.1.1))
    (λ n z f. ladder_same z (ap (λ (y : NamedLadder). y.hit) f.1.1.1.1)) (λ n z f. ladder_to forever count le n z f) (λ n z f. ladder_back forever count n z f)

no_ladder_reader : IsReaderOf ladder_lines (λ _ z. z ≡ empty_ladder) no_ladder_at
unfolding no_ladder_at
no_ladder_reader = law_as (λ _. end_lines ++ []) ladder_lines (λ _ z. Unit {0} × (z ≡ empty_ladder)) (λ _ z. z ≡ empty_ladder) no_ladder_at
    (ends empty_ladder) (λ n z f. ap ladder_lines (sym f.1)) (λ n z f. f.1) (λ n z f. (tt, f))

-- ---- the ladder of a claim for so many cycles

abbrev pub CyclesOf : ℕ → ℕ → NamedLadder → Type 0
CyclesOf cycles count z = FitsCycles cycles z × (length z.lemmas ≡ count)

none_to : (count : ℕ) (z : NamedLadder) → count ≡ 0 → z ≡ empty_ladder → CyclesOf 0 count z
none_to count z c e = (e, ap (λ (y : NamedLadder). length y.lemmas) e ∙ sym c)

some_to : (cycles count : ℕ) (z : NamedLadder) → eqb cycles 0 ≡ false → LadderOf false count z → CyclesOf cycles count z
some_to zero count z e f = absurd (eqb-false 0 0 e refl)
some_to (suc k) count z e f = (f.fits, f.counted)

some_back : (cycles count : ℕ) (z : NamedLadder) → eqb cycles 0 ≡ false → CyclesOf cycles count z → LadderOf false count z
some_back zero count z e f = absurd (eqb-false 0 0 e refl)
some_back (suc k) count z e f = record { fits = f.0; counted = f.1; levels = λ h. absurd cc }

cycles_by : (cycles count : ℕ) → count ≤ most → (cycles ≡ 0 → count ≡ 0) → (t : Bool) → eqb cycles 0 ≡ t → IsReaderOf ladder_lines (λ _ z. CyclesOf cycles count z) (λ s. cond t (no_ladder_at s) (ladder_at false count s))
cycles_by cycles count le none true e =
    let c : cycles ≡ 0 = eqb-true cycles 0 e in
    law_as ladder_lines ladder_lines (λ _ z. z ≡ empty_ladder) (λ _ z. CyclesOf cycles count z) no_ladder_at no_ladder_reader (λ n z f. refl)
    (λ n z f. subst (λ (k : ℕ). CyclesOf k count z) (sym c) (none_to count z (none c) f)) (λ n z f. (subst (λ (k : ℕ). CyclesOf k count z) c f).0)
cycles_by cycles count le none false e =
    law_as ladder_lines ladder_lines (λ _ z. LadderOf false count z) (λ _ z. CyclesOf cycles count z) (ladder_at false count) (ladder_reader false count le) (λ n z f. refl)
    (λ n z f. some_to cycles count z e f) (λ n z f. some_back cycles count z e f)

pub cycles_reader : (cycles count : ℕ) → count ≤ most → (cycles ≡ 0 → count ≡ 0) → IsReaderOf ladder_lines (λ _ z. CyclesOf cycles count z) (cycles_at cycles count)
cycles_reader cycles count le none = cycles_by cycles count le none (eqb cycles 0) refl
