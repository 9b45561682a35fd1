-- Which ladders are accepted for a point.
use Rattle.std.specs.Prelude.{◌≡◌, ℕ, ◌<◌, nat_lt, Bool, true, false, is_some, Option, Some, None, List, [], map, length, slice_index_or, IfSome, AllPairs, All as Each}
use Rattle.std.specs.List.{list_any}
use Rattle.cnf_core.specs.Literal.{Literal, same_sign}
use Rattle.cnf_core.specs.Lrat.{Refutes}
use Rattle.cnf_core.specs.declared.Line.{Line}
use Rattle.bit_system.specs.ProofLines.{ProofLine, seen}
use Rattle.aig_core.specs.Graph.{node_count}
use Rattle.bit_system.specs.declared.ladder.Depth.{Depth}
use Rattle.bit_system.specs.declared.ladder.Depth.TheVariants.{All, Steps}
use Rattle.bit_system.specs.declared.ladder.StateLit.{StateLit}
use Rattle.bit_system.specs.declared.ladder.Lemma.{Lemma}
use Rattle.bit_system.specs.declared.ladder.Ladder.{Ladder}
use Rattle.bit_system.specs.Machine.{Machine, IsMachine}
use Rattle.bit_system.specs.Ladders.{HasStates, NeverHits}
use Rattle.bit_system.specs.Queries.{step_clauses, hit_clauses}

-- a level that a lemma of a ladder of this depth may have
abbrev pub IsLevelOf : Depth → Depth → Type 0
IsLevelOf All All = Unit {0}
IsLevelOf All (Steps m) = ⊥
IsLevelOf (Steps k) All = 0 < k
IsLevelOf (Steps k) (Steps m) = (0 < m) × (m < k)

-- whether there is a step that could hit
abbrev pub has_steps : Depth → Bool
has_steps All = true
has_steps (Steps k) = nat_lt 0 k

-- the state bits of the literals rise strictly
abbrev pub Rises : List StateLit → Type 0
Rises lits = AllPairs (λ k l. k.state < l.state) lits

-- level, state bits and their order are as a ladder of this depth has them
pub record LemmaFits (m : Machine) (depth : Depth) (lemma : Lemma) : Type 0 where
  pub level : IsLevelOf depth lemma.level
  pub states : HasStates m lemma
  pub rises : Rises lemma.lits

-- each lemma fits and has a proof, and there is a proof of no hit where a step could hit
pub record IsShaped (m : Machine) (ladder : Ladder) : Type 0 where
  pub lemmas : Each (LemmaFits m ladder.depth) ladder.lemmas
  pub steps : length ladder.steps ≡ length ladder.lemmas
  pub hit : is_some ladder.hit ≡ has_steps ladder.depth

-- whether the starting value makes a literal of this sign true
abbrev pub starts_as : Option Bool → Bool → Bool
starts_as None positive = false
starts_as (Some b) positive = same_sign b positive

-- whether the starting values make one of the lemma's literals true
abbrev pub true_at_start : Machine → Lemma → Bool
true_at_start m lemma = list_any (λ l. starts_as (slice_index_or m.states l.state (record { name = []; start = None })).start l.positive) lemma.lits

-- there are lines that say what the proof says, and they refute the clauses
pub record IsRefutedBy (vars : ℕ) (clauses : List (List Literal)) (proof : List ProofLine) : Type 0 where
  pub lines : List Line
  pub said : map seen lines ≡ proof
  pub refutes : Refutes vars clauses lines

-- the proof of the lemma at place i refutes its step query
abbrev pub StepIsRefuted : Machine → Ladder → ℕ → Type 0
StepIsRefuted m ladder i =
    (l : Lemma) (proof : List ProofLine) →
    IsRefutedBy (node_count m.graph) (step_clauses m ladder.lemmas (slice_index_or ladder.lemmas i l)) (slice_index_or ladder.steps i proof)

-- the proof refutes the hit query of the point
abbrev pub HitIsRefuted : Machine → ℕ → Ladder → List ProofLine → Type 0
HitIsRefuted m point ladder proof = IsRefutedBy (node_count m.graph) (hit_clauses m ladder.depth ladder.lemmas point) proof

-- the shape fits, the start makes each lemma true, and the proofs refute the queries of their lemmas and of the point
pub record IsAccepted (m : Machine) (point : ℕ) (ladder : Ladder) : Type 0 where
  pub shape : IsShaped m ladder
  pub starts : Each (λ l. true_at_start m l ≡ true) ladder.lemmas
  pub steps : (i : ℕ) → i < length ladder.lemmas → StepIsRefuted m ladder i
  pub hit : IfSome ladder.hit (HitIsRefuted m point ladder)

-- a point for which a ladder is accepted is not hit within its depth
abbrev pub LaddersAreSound : Type 0
LaddersAreSound = (m : Machine) → IsMachine m → (point : ℕ) (ladder : Ladder) → IsAccepted m point ladder → NeverHits m point ladder.depth
