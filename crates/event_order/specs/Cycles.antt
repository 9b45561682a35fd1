-- Cycles and runs of the machine.
use Rattle.std.specs.Prelude.{◌≡◌, Bool, true, false, not, ◌&&◌, ◌||◌, List, [], ◌∷◌, map, zip}
use Rattle.design_core.specs.declared.flat.Process.{Process}
use Rattle.design_core.specs.declared.flat.Design.{Design}
use Rattle.bit_exprs.specs.Updates.{perform}
use Rattle.design_core.specs.Settled.{is_clocked, reset_of, is_active}
use Rattle.event_order.specs.States.{State, Phase, Fresh, Settling, Clocked, IsQuiet, raised, woken}
use Rattle.event_order.specs.Steps.{Step, Leads}

-- before the first cycle, with any values
abbrev pub fresh : Design → List Bool → State
fresh d v = record { values = v; pending = map (λ p. false) d.processes; waiting = []; phase = Fresh }

-- in the first cycle every combinational process is pending
abbrev pub flags_at : Design → State → List Bool
flags_at d s = elim s.phase [
  | Fresh ↦ map (λ p. not (is_clocked p.kind)) d.processes
  | Settling ↦ s.pending
  | Clocked ↦ s.pending
]

abbrev pub is_first : Phase → Bool
is_first Fresh = true
is_first Settling = false
is_first Clocked = false

-- the process has a reset, and it is at its active level
abbrev pub is_reset : Process → List Bool → Bool
is_reset p v = is_active (reset_of p.kind) v

-- the reset of a process became active, or is active in the first cycle
abbrev pub starts : Bool → Process → List Bool → List Bool → Bool
starts first p v w = is_reset p w && (first || not (is_reset p v))

-- the inputs took new values: what reads a changed one is pending, and each process whose reset became active
abbrev pub begun : Design → List Bool → State → State
begun d line s = record {
  values = perform (zip d.inputs line) s.values;
  pending = raised (λ p. starts (is_first s.phase) p s.values (perform (zip d.inputs line) s.values)) d.processes
      (woken d.processes s.values (perform (zip d.inputs line) s.values) (flags_at d s));
  waiting = s.waiting;
  phase = Settling;
}

-- the clock's edge has come, and every clocked process is pending
abbrev pub clocked : Design → State → State
clocked d s = record { values = s.values; pending = map (λ p. is_clocked p.kind) d.processes; waiting = s.waiting; phase = Clocked }

-- A cycle under these inputs: steps until all is quiet at the values v, the clock's edge, and steps until all is quiet again.
pub record Cycle (d : Design) (line : List Bool) (s : State) (v : List Bool) (t : State) : Type 0 where
  pub first : List Step
  pub middle : State
  pub second : List Step
  pub settles : Leads d (begun d line s) first middle
  pub settled : IsQuiet middle
  pub at : middle.values ≡ v
  pub clocks : Leads d (clocked d middle) second t
  pub ended : IsQuiet t

-- a run from s to t: under each line of inputs a cycle, in any order of steps
abbrev pub Runs : Design → State → List (List Bool) → List (List Bool) → State → Type 0
Runs d s [] [] t = s ≡ t
Runs d s (line ∷ lines) (v ∷ vs) t = (u : State) × Cycle d line s v u × Runs d u lines vs t
Runs d s [] (v ∷ vs) t = ⊥
Runs d s (line ∷ lines) [] t = ⊥
