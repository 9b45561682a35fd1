-- What holds of every order.
use Rattle.std.specs.Prelude.{ℕ, ◌≡◌, ◌↔◌, ◌≤◌, Bool, List, [], ◌∷◌, length, All}
use Rattle.design_core.specs.declared.flat.Design.{Design}
use Rattle.design_core.specs.declared.setup.Setup.{Setup}
use Rattle.design_core.specs.declared.setup.Stimulus.{Stimulus}
use Rattle.design_core.specs.Settled.{next_of}
use Rattle.design_core.specs.Legality.{IsLegal}
use Rattle.design_core.specs.Alike.{Alike}
use Rattle.design_core.specs.Runs.{IsRun, Fits}
use Rattle.design_core.specs.Verdicts.{Point, Passes, NotWithin, Never, HitAt}
use Rattle.event_order.specs.States.{State, IsQuiet}
use Rattle.event_order.specs.Steps.{Step, Leads}
use Rattle.event_order.specs.Cycles.{fresh, Runs}
use Rattle.event_order.specs.Numbers.{Follows}
use Rattle.event_order.specs.Work.{work}
use Rattle.event_order.specs.Verdicts.{IsMachineRun, MachineNotWithin, MachineNever, MachineHitAt}
use Rattle.event_order.specs.Registers.{registers_in}

-- a value for each input in each cycle
abbrev pub AreInputs : Design → List (List Bool) → Type 0
AreInputs d lines = All (λ line. length line ≡ length d.inputs) lines

-- what the registers hold after a run that settled at these values
abbrev pub held_after : Design → List Bool → List (List Bool) → List Bool
held_after d held [] = held
held_after d held (v ∷ vs) = held_after d (next_of d v) vs

-- two runs are alike in each cycle: in all inputs, registers and driven bits, the next registers, and the hits
abbrev pub AllAlike : Design → List ℕ → List (List Bool) → List (List Bool) → Type 0
AllAlike d order [] [] = Unit {0}
AllAlike d order (v ∷ vs) (w ∷ ws) = Alike d order v w × AllAlike d order vs ws
AllAlike d order [] (w ∷ ws) = ⊥
AllAlike d order (v ∷ vs) [] = ⊥

-- A run in any order is a settled run, and leaves its registers. Runs in two orders are alike. For each settled run there is one that is alike.
pub record RunsSettle (d : Design) (order : List ℕ) (start : List Bool) (lines : List (List Bool)) : Type 0 where
  pub only : (vs : List (List Bool)) (t : State) → Runs d (fresh d start) lines vs t →
      IsRun d (registers_in d start) lines vs × (registers_in d t.values ≡ held_after d (registers_in d start) vs)
  pub same : (vs ws : List (List Bool)) (t u : State) → Runs d (fresh d start) lines vs t → Runs d (fresh d start) lines ws u → AllAlike d order vs ws
  pub some : (vs : List (List Bool)) → IsRun d (registers_in d start) lines vs → (ws : List (List Bool)) × (t : State) × Runs d (fresh d start) lines ws t × AllAlike d order vs ws

abbrev pub EveryOrderSettles : Type 0
EveryOrderSettles = (d : Design) (order : List ℕ) (start : List Bool) (lines : List (List Bool)) → IsLegal d order →
    length start ≡ length d.bits → AreInputs d lines → RunsSettle d order start lines

-- some steps lead to a quiet state
abbrev pub CanEnd : Design → State → Type 0
CanEnd d s = (xs : List Step) × (t : State) × Leads d s xs t × IsQuiet t

abbrev pub EveryCycleEnds : Type 0
EveryCycleEnds = (d : Design) (order : List ℕ) (s : State) → IsLegal d order → length s.pending ≡ length d.processes → CanEnd d s

-- No list of steps is longer than the work that is left: none goes on for ever.
abbrev pub EveryOrderEnds : Type 0
EveryOrderEnds = (d : Design) (order : List ℕ) (s : State) (xs : List Step) (t : State) → IsLegal d order → length s.pending ≡ length d.processes →
    Leads d s xs t → length xs ≤ work d order s.pending s.waiting

-- the number x names some steps from s to a quiet state, and no others
pub record NamesOne (d : Design) (x : ℕ) (s : State) : Type 0 where
  pub steps : List Step
  pub number : ℕ
  pub end : State
  pub follows : Follows d x s steps number end
  pub quiet : IsQuiet end
  pub only : (ys : List Step) (z : ℕ) (u : State) → Follows d x s ys z u → IsQuiet u → (ys ≡ steps) × (z ≡ number) × (u ≡ end)

abbrev pub EveryNumberNamesOne : Type 0
EveryNumberNamesOne = (d : Design) (order : List ℕ) (x : ℕ) (s : State) → IsLegal d order → length s.pending ≡ length d.processes → NamesOne d x s

-- the verdicts over settled runs are those over the machine's runs
pub record SameVerdicts (d : Design) (setup : Setup) (point : Point) : Type 0 where
  pub within : (t : ℕ) → NotWithin d setup point t ↔ MachineNotWithin d setup point t
  pub never : Never d setup point ↔ MachineNever d setup point
  pub hit : (s : Stimulus) (t : ℕ) → HitAt d setup point s t ↔ MachineHitAt d setup point s t

-- for the point of each site
abbrev pub EveryVerdictAgrees : Type 0
EveryVerdictAgrees = (d : Design) (order : List ℕ) (setup : Setup) (site : ℕ) → IsLegal d order → SameVerdicts d setup (Passes d site)

-- each stimulus that fits has a run of the machine
abbrev pub EveryStimulusRuns : Type 0
EveryStimulusRuns = (d : Design) (order : List ℕ) (setup : Setup) (s : Stimulus) → IsLegal d order → Fits d setup s → (vs : List (List Bool)) × IsMachineRun d s vs
