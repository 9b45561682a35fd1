-- What was found out of a point can be spelled.
use Rattle.std.proofs.Common.{◌≡◌, ℕ, zero, suc, ◌<◌, ◌^◌, true, false, is_some, List, [], ◌∷◌, map, length, Option, Some, None, refl, sym, ap, ◌∙◌, subst, arith}
use Rattle.std.specs.Prelude.{All}
use Rattle.std.specs.List.{AllByRecursion}
use Rattle.std.proofs.lemmas.Bool.{false≢true, lt-ltb}
use Rattle.std.proofs.lemmas.List.{length-map, nil_from_length}
use Rattle.std.proofs.lemmas.List.Elements.{All-head, All-tail, All-get_or}
use Rattle.bit_system.specs.declared.system.StateInfo.{StateInfo}
use Rattle.bit_system.specs.declared.ladder.Depth.{Depth}
use Rattle.bit_system.specs.declared.ladder.Depth.TheVariants.{All as Forever, Steps}
use Rattle.bit_system.specs.declared.ladder.StateLit.{StateLit}
use Rattle.bit_system.specs.declared.ladder.Lemma.{Lemma}
use Rattle.bit_system.specs.declared.ladder.Ladder.{Ladder}
use Rattle.bit_system.specs.ProofLines.{ProofLine}
use Rattle.bit_system.specs.Machine.{Machine}
use Rattle.bit_system.specs.Accepted.{IsLevelOf, has_steps, LemmaFits, true_at_start, IsAccepted}
use Rattle.cert_text.specs.declared.cert.NamedLit.{NamedLit}
use Rattle.cert_text.specs.declared.cert.NamedLemma.{NamedLemma}
use Rattle.cert_text.specs.declared.cert.NamedLadder.{NamedLadder}
use Rattle.cert_text.specs.Points.{IsStateName}
use Rattle.cert_text.specs.Spelling.{FitsLevel, FitsLemma, FitsProof, FitsLadder, empty_ladder, FitsCycles, FitsBody}
use Rattle.point_prover.specs.Proved.{IsProved, IsOpen}
use Rattle.point_prover.specs.declared.prover.Proved.{Proved}
use Rattle.point_prover.specs.declared.prover.Proved.TheVariants as found
use Rattle.text_prover.specs.Naming.{named_lit, named_lemma, named_ladder, body_of}
use Rattle.text_prover.specs.Numbers.{FitsIfAny, LadderFits, NumbersFit}

-- ---- levels

-- a depth whose number can be spelled
abbrev IsShort : Depth → Type 0
IsShort Forever = Unit {0}
IsShort (Steps k) = k < 2 ^ 63

level_fits : (depth level : Depth) → IsLevelOf depth level → IsShort depth → FitsLevel level
level_fits Forever Forever h short = tt
level_fits Forever (Steps n) h short = absurd h
level_fits (Steps k) Forever h short = tt
level_fits (Steps k) (Steps n) h short = omega (arith, h.1, short)

level_all : (level : Depth) → IsLevelOf Forever level → level ≡ Forever
level_all Forever h = refl
level_all (Steps n) h = absurd h

no_level : (level : Depth) → IsLevelOf (Steps 0) level → ⊥
no_level Forever h = omega (arith, h)
no_level (Steps n) h = omega (arith, h.1)

-- ---- ladders

hit_from : (o : Option (List ProofLine)) → is_some o ≡ true → FitsIfAny o → (proof : List ProofLine) × (o ≡ Some proof) × FitsProof proof
hit_from None e fits = absurd (false≢true e)
hit_from (Some proof) e fits = (proof, refl, fits)

no_hit : (o : Option (List ProofLine)) → is_some o ≡ false → o ≡ None
no_hit None e = refl
no_hit (Some proof) e = absurd (false≢true (sym e))

module _ (m : Machine) where
  abbrev states : List StateInfo
  states = m.states

  abbrev IsIn : StateLit → Type 0
  IsIn l = l.state < length m.states

  abbrev StartsTrue : Lemma → Type 0
  StartsTrue l = true_at_start m l ≡ true

  some_lits : (level : Depth) (ls : List StateLit) → StartsTrue (record { level = level; lits = ls }) → 0 < length ls
  some_lits level [] e = absurd (false≢true e)
  some_lits level (l ∷ ls) e = omega arith

  -- without steps there are no lemmas
  no_lemmas : (ls : List Lemma) → All (LemmaFits m (Steps 0)) ls → ls ≡ []
  no_lemmas [] fit = refl
  no_lemmas (l ∷ ls) fit = absurd (no_level l.level (All-head (LemmaFits m (Steps 0)) l ls fit).level)

  empty : (point : ℕ) (l : Ladder) → l.depth ≡ Steps 0 → IsAccepted m point l → named_ladder states l ≡ empty_ladder
  empty point l depth accepted =
      let lemmas : l.lemmas ≡ [] = no_lemmas l.lemmas (subst (λ d. All (LemmaFits m d) l.lemmas) depth accepted.shape.lemmas) in
      let steps : l.steps ≡ [] = nil_from_length l.steps (accepted.shape.steps ∙ ap length lemmas) in
      let hit : l.hit ≡ None = no_hit l.hit (accepted.shape.hit ∙ ap has_steps depth) in
      ap (λ (ls : List Lemma). let x : NamedLadder = record { lemmas = map (named_lemma states) ls; steps = l.steps; hit = l.hit } in x) lemmas
      ∙ ap (λ (ps : List (List ProofLine)). let x : NamedLadder = record { lemmas = []; steps = ps; hit = l.hit } in x) steps
      ∙ ap (λ (o : Option (List ProofLine)). let x : NamedLadder = record { lemmas = []; steps = []; hit = o } in x) hit

  module _ (named : All (λ (s : StateInfo). IsStateName s.name) m.states) where
    lits_fit : (ls : List StateLit) → All IsIn ls → AllByRecursion (λ (l : NamedLit). IsStateName l.name) (map (named_lit states) ls)
    lits_fit [] within = tt
    lits_fit (l ∷ ls) within = (
      All-get_or (λ (s : StateInfo). IsStateName s.name) states l.state (record { name = []; start = None }) (All-head IsIn l ls within) named,
      lits_fit ls (All-tail IsIn l ls within),
    )

    lemma_fits : (depth : Depth) (l : Lemma) → LemmaFits m depth l → StartsTrue l → IsShort depth → FitsLemma (named_lemma states l)
    lemma_fits depth l fits starts short = record {
      level = level_fits depth l.level fits.level short;
      some = omega (arith, some_lits l.level l.lits starts, length-map l.lits (named_lit states));
      names = lits_fit l.lits fits.states;
    }

    lemmas_fit : (depth : Depth) (ls : List Lemma) → All (LemmaFits m depth) ls → All StartsTrue ls → IsShort depth → AllByRecursion FitsLemma (map (named_lemma states) ls)
    lemmas_fit depth [] fit start short = tt
    lemmas_fit depth (l ∷ ls) fit start short = (
      lemma_fits depth l (All-head (LemmaFits m depth) l ls fit) (All-head StartsTrue l ls start) short,
      lemmas_fit depth ls (All-tail (LemmaFits m depth) l ls fit) (All-tail StartsTrue l ls start) short,
    )

    levels_all : (ls : List Lemma) → All (LemmaFits m Forever) ls → AllByRecursion (λ (l : NamedLemma). l.level ≡ Forever) (map (named_lemma states) ls)
    levels_all [] fit = tt
    levels_all (l ∷ ls) fit = (
      level_all l.level (All-head (LemmaFits m Forever) l ls fit).level,
      levels_all ls (All-tail (LemmaFits m Forever) l ls fit),
    )

    ladder_fits : (point : ℕ) (l : Ladder) → IsAccepted m point l → IsShort l.depth → has_steps l.depth ≡ true → LadderFits l → FitsLadder (named_ladder states l)
    ladder_fits point l accepted short some fits = record {
      lemmas = lemmas_fit l.depth l.lemmas accepted.shape.lemmas accepted.starts short;
      count = omega (arith, fits.count, length-map l.lemmas (named_lemma states));
      paired = accepted.shape.steps ∙ sym (length-map l.lemmas (named_lemma states));
      steps = fits.steps;
      hit = hit_from l.hit (accepted.shape.hit ∙ some) fits.hit;
    }

    module _ (none : m.prelude ≡ 0) (effort : ℕ) (few : effort < 2 ^ 63) where
      cycles_fit : (k cycles used : ℕ) (l : Ladder) → IsOpen m k effort cycles l used → LadderFits l → FitsCycles cycles (named_ladder states l)
      cycles_fit k zero used l open' fits = empty k l open'.depth open'.accepted
      cycles_fit k (suc cycles) used l open' fits =
          let depth : l.depth ≡ Steps (suc cycles) = open'.depth ∙ ap Steps (omega (arith, none)) in
          ladder_fits k l open'.accepted (subst IsShort (sym depth) (omega (arith, few, open'.few))) (ap has_steps depth ∙ lt-ltb 0 (suc cycles) (omega arith)) fits

      pub body_fits : (k : ℕ) (f : Proved) → IsProved m k effort f → NumbersFit f → FitsBody (body_of states f)
      body_fits k (found.Excluded l) is fits = (
        ladder_fits k l is.accepted (subst IsShort (sym is.depth) tt) (ap has_steps is.depth) fits,
        levels_all l.lemmas (subst (λ d. All (LemmaFits m d) l.lemmas) is.depth is.accepted.shape.lemmas),
      )
      body_fits k (found.Reached w) is fits = omega (arith, fits)
      body_fits k (found.Open cycles l used) is fits = (omega (arith, few, is.few), cycles_fit k cycles used l is fits)
