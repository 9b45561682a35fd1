-- What a ladder is refused for: the first fault, in order.
use Rattle.std.specs.Prelude.{◌≡◌, ℕ, ◌+◌, ◌<◌, ◌⊎◌, true, false, Some, List, [], ◌∷◌, map, take, length, slice_index_or, HoldsAt, All as Each}
use Rattle.cnf_core.specs.Literal.{Literal}
use Rattle.cnf_core.specs.Lrat.{State, Passes, start}
use Rattle.cnf_core.specs.declared.Line.{Line as CheckedLine}
use Rattle.bit_system.specs.ProofLines.{ProofLine, seen}
use Rattle.aig_core.specs.Graph.{node_count}
use Rattle.lrat_check.specs.Faults.{IsFault}
use Rattle.lrat_check.specs.declared.checker.LineFault.{LineFault}
use Rattle.bit_system.specs.declared.ladder.Lemma.{Lemma}
use Rattle.bit_system.specs.declared.ladder.Ladder.{Ladder}
use Rattle.bit_system.specs.Machine.{Machine}
use Rattle.bit_system.specs.Queries.{step_clauses, hit_clauses}
use Rattle.bit_system.specs.Accepted.{IsShaped, true_at_start, StepIsRefuted}
use Rattle.ladder_check.specs.declared.fault.Query.TheVariants.{Step, Hit}
use Rattle.ladder_check.specs.declared.fault.QueryFault.{QueryFault}
use Rattle.ladder_check.specs.declared.fault.QueryFault.TheVariants.{Line as BadLine, NoEnd}
use Rattle.ladder_check.specs.declared.fault.LadderFault.{LadderFault}
use Rattle.ladder_check.specs.declared.fault.LadderFault.TheVariants.{Shape, StartFails, Line, Memory}

-- the first line that isn't accepted after s has this fault; or each is, and none is empty
abbrev pub FailsBy : ℕ → State → List CheckedLine → QueryFault → Type 0
FailsBy vars s [] f = (s.closed ≡ false) × (f ≡ NoEnd)
FailsBy vars s (line ∷ lines) f =
    ((g : LineFault) × IsFault vars s line g × (f ≡ BadLine g)) ⊎ ((t : State) × Passes vars s line t × FailsBy vars t lines f)

-- there are lines that say what the proof says, and they fail so
pub record FailsAs (vars : ℕ) (clauses : List (List Literal)) (proof : List ProofLine) (f : QueryFault) : Type 0 where
  pub lines : List CheckedLine
  pub said : map seen lines ≡ proof
  pub fails : FailsBy vars (start clauses) lines f

-- the lemma at place i is the first with no literal that is true at the start
pub record StartFailsAt (m : Machine) (lemmas : List Lemma) (i : ℕ) : Type 0 where
  pub within : i < length lemmas
  pub fails : HoldsAt (λ l. true_at_start m l ≡ false) lemmas i
  pub before : Each (λ l. true_at_start m l ≡ true) (take i lemmas)

-- the proof of the lemma at place i fails
abbrev pub StepFails : Machine → Ladder → ℕ → QueryFault → Type 0
StepFails m ladder i f =
    (l : Lemma) (proof : List ProofLine) →
    FailsAs (node_count m.graph) (step_clauses m ladder.lemmas (slice_index_or ladder.lemmas i l)) (slice_index_or ladder.steps i proof) f

-- the lemma at place i is the first whose proof fails
pub record StepFailsAt (m : Machine) (ladder : Ladder) (i : ℕ) (f : QueryFault) : Type 0 where
  pub within : i < length ladder.lemmas
  pub fails : StepFails m ladder i f
  pub before : (k : ℕ) → k < i → StepIsRefuted m ladder k

-- the proof of the point fails
abbrev pub HitFails : Machine → ℕ → Ladder → List ProofLine → QueryFault → Type 0
HitFails m point ladder proof f = FailsAs (node_count m.graph) (hit_clauses m ladder.depth ladder.lemmas point) proof f

-- the fault of the first step proof that fails
abbrev pub StepsFault : Machine → Ladder → LadderFault → Type 0
StepsFault m ladder Shape = ⊥
StepsFault m ladder (StartFails n) = ⊥
StepsFault m ladder (Line (Step n) f) = (i : ℕ) × (n ≡ i + 1) × StepFailsAt m ladder i f
StepsFault m ladder (Line Hit f) = ⊥
StepsFault m ladder Memory = Unit {0}

-- the fault of the hit proof
abbrev pub HitFault : Machine → ℕ → Ladder → LadderFault → Type 0
HitFault m point ladder Shape = ⊥
HitFault m point ladder (StartFails n) = ⊥
HitFault m point ladder (Line (Step n) f) = ⊥
HitFault m point ladder (Line Hit f) = (proof : List ProofLine) × (ladder.hit ≡ Some proof) × HitFails m point ladder proof f
HitFault m point ladder Memory = Unit {0}

-- the start makes each lemma true
abbrev pub AllStart : Machine → Ladder → Type 0
AllStart m ladder = Each (λ l. true_at_start m l ≡ true) ladder.lemmas

-- each step proof refutes its query
abbrev pub AllSteps : Machine → Ladder → Type 0
AllSteps m ladder = (i : ℕ) → i < length ladder.lemmas → StepIsRefuted m ladder i

-- the first fault: the shape, then the starts, the steps and the hit
abbrev pub IsLadderFault : Machine → ℕ → Ladder → LadderFault → Type 0
IsLadderFault m point ladder Shape = IsShaped m ladder → ⊥
IsLadderFault m point ladder (StartFails n) = IsShaped m ladder × ((i : ℕ) × (n ≡ i + 1) × StartFailsAt m ladder.lemmas i)
IsLadderFault m point ladder (Line (Step n) f) = IsShaped m ladder × AllStart m ladder × ((i : ℕ) × (n ≡ i + 1) × StepFailsAt m ladder i f)
IsLadderFault m point ladder (Line Hit f) =
    IsShaped m ladder × AllStart m ladder × AllSteps m ladder × ((proof : List ProofLine) × (ladder.hit ≡ Some proof) × HitFails m point ladder proof f)
IsLadderFault m point ladder Memory = Unit {0}
