-- What a solver that keeps its lines shows, and proofs of a ladder, under way.
use Rattle.std.proofs.Common.{◌≡◌, ◌≢◌, ℕ, ◌+◌, ◌<◌, Bool, Option, Some, None, List, [], ◌∷◌, ◌++◌, map, length, get_or, refl, sym, ap, ◌∙◌, subst, arith, inl, inr}
use Rattle.std.specs.Prelude.{All as Each, MatchOption}
use Rattle.std.specs.Option.{unwrap_or}
use Rattle.std.proofs.lemmas.Bool.{cases_lt}
use Rattle.std.proofs.lemmas.List.{get_or_append_left, get_or_at, length_push}
use Rattle.cnf_core.specs.Literal.{Literal, HaveNoSolution, HaveVarsUpTo}
use Rattle.cnf_core.specs.Lrat.{Refutes}
use Rattle.cnf_core.specs.declared.Line.{Line}
use Rattle.proof_lines.specs.Sinks.{SinkState, Tells}
use Rattle.proof_lines.specs.Kept.{kept_state}
use Rattle.proof_lines.specs.declared.sink.KeepSink.{KeepSink}
use Rattle.sat_core.specs.Answers.{valuation, CoreLines}
use Rattle.sat_core.proofs.Calls.{Refutes-core}
use Rattle.aig_core.specs.Graph.{node_count}
use Rattle.bit_system.specs.declared.ladder.Depth.{Depth}
use Rattle.bit_system.specs.declared.ladder.Depth.TheVariants.{All, Steps}
use Rattle.bit_system.specs.declared.ladder.Lemma.{Lemma}
use Rattle.bit_system.specs.Machine.{Machine}
use Rattle.bit_system.specs.ProofLines.{ProofLine, seen}
use Rattle.bit_system.specs.Ladders.{HasStates}
use Rattle.bit_system.specs.Queries.{step_clauses, hit_clauses}
use Rattle.bit_system.specs.Accepted.{IsLevelOf, IsRefutedBy}
use Rattle.generalise.specs.declared.units.Units.{Units}
use Rattle.ic3_frames.specs.Solving.{IsSolved}
use Rattle.ic3_frames.specs.declared.solve.Solved.TheVariants.{Values}
use Rattle.ic3_frames.proofs.Levels.{steps_same}
use Rattle.ic3_frames.proofs.Meaning.{unsolved_step, unsolved_hit}
use Rattle.clause_names.specs.Numbering.{IsNumbering}
use Rattle.clause_names.specs.declared.numbering.Numbered.{Numbered}
use Rattle.point_prover.specs.Good.{IsGood, AreProved, IsProofUpTo}
use Rattle.point_prover.proofs.Ladders.{has_states}

-- clauses without a solution aren't solved by values
pub unsolvable : (vars : ℕ) (clauses added : List (List Literal)) (old new : Units) (values : List Bool) → added ≡ clauses → HaveNoSolution clauses → IsSolved vars added old new (Values values) → ⊥
unsolvable vars clauses added old new values same none h = none (valuation values) (rw same at h.1)

lines-of : SinkState → List Line
lines-of s = unwrap_or s.told []

-- the lines that a new sink keeps refute the clauses
pub kept_refute : (given vars : ℕ) (clauses added : List (List Literal)) (before was is after : KeepSink) (lines : List Line) →
    given ≡ vars → added ≡ clauses → was ≡ before → after ≡ is →
    kept_state before ≡ record { faults = 0; told = Some [] } → kept_state after ≡ record { faults = 0; told = Some lines } →
    Tells (kept_state was).told (kept_state is).told (CoreLines given added []) → Refutes vars clauses lines
unfolding lines-of
kept_refute given vars clauses added before was is after lines range same began ended empty kept h =
    let none : was.lines.items ≡ [] = ap (λ (s : KeepSink). s.lines.items) began ∙ ap lines-of empty in
    let all : is.lines.items ≡ lines = sym (ap (λ (s : KeepSink). s.lines.items) ended) ∙ ap lines-of kept in
    Refutes-core vars clauses lines (rw (range, same, none, all) at h)

-- dense variables are those of the solver
pub numbers_fit : (clauses : List (List Literal)) (n : Numbered) (most given : ℕ) → IsNumbering clauses n → given ≡ most → most + 1 ≡ length n.names.keys → HaveVarsUpTo given n.clauses
numbers_fit clauses n most given h same all = λ i c low k l less. let below = h.numbered.below i c low k l less in omega arith

-- one more lemma's proof
pub proved_more : (m : Machine) (lemmas : List Lemma) (count : ℕ) (proofs : List (List ProofLine)) (proof : List ProofLine) → AreProved m lemmas count proofs →
    ((l : Lemma) → IsRefutedBy (node_count m.graph) (step_clauses m lemmas (get_or lemmas count l)) proof) → AreProved m lemmas (count + 1) (proofs ++ proof ∷ [])
proved_more m lemmas count proofs proof h here = record {
  long = length_push proofs proof ∙ ap (λ (n : ℕ). n + 1) h.long;
  each = λ i l d low. elim (cases_lt i count) [
    | inl lt ↦ subst (λ (p : List ProofLine). IsRefutedBy (node_count m.graph) (step_clauses m lemmas (get_or lemmas i l)) p)
        (sym (get_or_append_left proofs (proof ∷ []) d i (omega (arith, h.long)))) (h.each i l d lt)
    | inr ge ↦
        let same : i ≡ count = omega arith in
        subst (λ (p : List ProofLine). IsRefutedBy (node_count m.graph) (step_clauses m lemmas (get_or lemmas i l)) p)
        (sym (get_or_at proofs proof [] d i (h.long ∙ sym same))) (rw same (here l))
  ];
}

pub proved_none : (m : Machine) (lemmas : List Lemma) → AreProved m lemmas 0 []
proved_none m lemmas = record { long = refl; each = λ i l d low. absurd (omega arith) }

-- ---- the queries of good lemmas have no solution

level_ok : (depth level : Depth) → IsLevelOf depth level → level ≢ Steps 0
level_ok All All h e = absurd cc
level_ok All (Steps n) h e = h
level_ok (Steps k) All h e = absurd cc
level_ok (Steps k) (Steps n) h e = absurd (omega (arith, steps_same n 0 e, h.0))

pub none_step : (m : Machine) (point : ℕ) (depth : Depth) (lemmas : List Lemma) (at : ℕ) (clauses : List (List Literal)) → IsGood m point depth lemmas → at < length lemmas →
    ((l : Lemma) → clauses ≡ step_clauses m lemmas (get_or lemmas at l)) → HaveNoSolution clauses
none_step m point depth lemmas at clauses g low exact =
    let d : Lemma = record { level = All; lits = [] } in
    let states : Each (HasStates m) lemmas = has_states m point depth lemmas g in
    rw (exact d)
    (unsolved_step m lemmas (get_or lemmas at d) g.valid states (states at d low) (level_ok depth (get_or lemmas at d).level (g.fits at d low).level) (g.lasts at d low))

pub none_hit : (m : Machine) (point : ℕ) (depth : Depth) (lemmas : List Lemma) (clauses : List (List Literal)) → IsGood m point depth lemmas →
    clauses ≡ hit_clauses m depth lemmas point → HaveNoSolution clauses
none_hit m point depth lemmas clauses g exact =
    rw exact (unsolved_hit m point depth lemmas g.valid (has_states m point depth lemmas g) g.point_exists g.steps g.misses)
