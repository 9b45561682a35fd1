-- Lemmas that make a ladder, and their proofs.
use Rattle.std.specs.Prelude.{◌≡◌, ◌≢◌, ℕ, ◌<◌, Bool, true, List, length, slice_index_or, All as Each}
use Rattle.aig_core.specs.Graph.{node_count}
use Rattle.cnf_core.specs.Literal.{Literal, HaveVarsUpTo}
use Rattle.bit_system.specs.declared.ladder.Depth.{Depth}
use Rattle.bit_system.specs.declared.ladder.Depth.TheVariants.{Steps}
use Rattle.bit_system.specs.declared.ladder.Lemma.{Lemma}
use Rattle.bit_system.specs.Machine.{Machine, IsMachine}
use Rattle.bit_system.specs.ProofLines.{ProofLine}
use Rattle.bit_system.specs.Queries.{step_clauses}
use Rattle.bit_system.specs.Accepted.{LemmaFits, true_at_start, IsRefutedBy}
use Rattle.ic3_frames.specs.Queries.{Fails, Hits}

-- the lemmas fit a ladder of this depth, the start makes each true, no step makes one false, and none of the states that are left hits
pub record IsGood (m : Machine) (point : ℕ) (depth : Depth) (lemmas : List Lemma) : Type 0 where
  pub valid : IsMachine m
  pub point_exists : point < length m.hits
  pub steps : depth ≢ Steps 0
  pub fits : Each (LemmaFits m depth) lemmas
  pub starts : Each (λ l. true_at_start m l ≡ true) lemmas
  pub lasts : Each (λ l. (state input : List Bool) → Fails m lemmas l state input → ⊥) lemmas
  pub misses : (state input : List Bool) → Hits m point lemmas depth state input → ⊥

-- the proofs of the first so many lemmas
pub record AreProved (m : Machine) (lemmas : List Lemma) (count : ℕ) (proofs : List (List ProofLine)) : Type 0 where
  pub long : length proofs ≡ count
  pub each : (i : ℕ) (l : Lemma) (proof : List ProofLine) → i < count →
      IsRefutedBy (node_count m.graph) (step_clauses m lemmas (slice_index_or lemmas i l)) (slice_index_or proofs i proof)

-- the proof refutes the clauses over as many variables as they have, or more
abbrev pub IsProofUpTo : List (List Literal) → List ProofLine → Type 0
IsProofUpTo clauses proof = (vars : ℕ) → HaveVarsUpTo vars clauses → IsRefutedBy vars clauses proof
