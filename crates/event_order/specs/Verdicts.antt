-- What is said of a cover point over the machine's runs. A point is what it takes for the settled values of the judged cycles to hit it at a judged cycle.
use Rattle.std.specs.Prelude.{ℕ, ◌≡◌, ◌+◌, ◌<◌, Bool, List, length, drop}
use Rattle.design_core.specs.declared.flat.Design.{Design}
use Rattle.design_core.specs.declared.setup.Setup.{Setup}
use Rattle.design_core.specs.declared.setup.Stimulus.{Stimulus}
use Rattle.design_core.specs.Runs.{Fits}
use Rattle.design_core.specs.Verdicts.{Point}
use Rattle.event_order.specs.States.{State}
use Rattle.event_order.specs.Cycles.{fresh, Runs}
use Rattle.event_order.specs.Registers.{registers_in}

-- in some order of steps, and from some values of which the registers' are those of the stimulus, its cycles settle at these values
pub record IsMachineRun (d : Design) (s : Stimulus) (vs : List (List Bool)) : Type 0 where
  pub start : List Bool
  pub wide : length start ≡ length d.bits
  pub registers : registers_in d start ≡ s.start
  pub end : State
  pub runs : Runs d (fresh d start) s.lines vs end

-- no run hits the point before judged cycle t, whatever the order of steps; the judged cycles begin after the prelude
abbrev pub MachineNotWithin : Design → Setup → Point → ℕ → Type 0
MachineNotWithin d setup point t =
    (s : Stimulus) (vs : List (List Bool)) → Fits d setup s → IsMachineRun d s vs → (u : ℕ) → u < t → point (drop setup.cycles vs) u → ⊥

-- no run ever hits the point
abbrev pub MachineNever : Design → Setup → Point → Type 0
MachineNever d setup point = (t : ℕ) → MachineNotWithin d setup point t

-- every run of the stimulus hits the point at judged cycle t, with which it ends, and at none before
pub record MachineHitAt (d : Design) (setup : Setup) (point : Point) (s : Stimulus) (t : ℕ) : Type 0 where
  pub fits : Fits d setup s
  pub ends : length s.lines ≡ setup.cycles + t + 1
  pub hits : (vs : List (List Bool)) → IsMachineRun d s vs → point (drop setup.cycles vs) t
  pub first : (vs : List (List Bool)) → IsMachineRun d s vs → (u : ℕ) → u < t → point (drop setup.cycles vs) u → ⊥
