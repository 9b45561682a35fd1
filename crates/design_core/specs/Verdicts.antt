-- What is said of a cover point. A point is what it takes for the settled values of the judged cycles to hit it at a judged cycle.
use Rattle.std.specs.Prelude.{ℕ, ◌≡◌, ◌+◌, ◌<◌, Bool, List, length, drop, slice_get, Some}
use Rattle.design_core.specs.declared.flat.Design.{Design}
use Rattle.design_core.specs.declared.setup.Setup.{Setup}
use Rattle.design_core.specs.declared.setup.Stimulus.{Stimulus}
use Rattle.design_core.specs.Settled.{Hit}
use Rattle.design_core.specs.Runs.{IsRun, Fits}

abbrev pub Point : Type 1
Point = List (List Bool) → ℕ → Type 0

-- the point of a site: some body passes it at judged cycle t
abbrev pub Passes : Design → ℕ → Point
Passes d site vs t = (v : List Bool) × (slice_get vs t ≡ Some v) × Hit d v site

-- no run hits the point before judged cycle t; the judged cycles begin after the prelude
abbrev pub NotWithin : Design → Setup → Point → ℕ → Type 0
NotWithin d setup point t =
    (s : Stimulus) (vs : List (List Bool)) → Fits d setup s → IsRun d s.start s.lines vs → (u : ℕ) → u < t → point (drop setup.cycles vs) u → ⊥

-- no run ever hits the point
abbrev pub Never : Design → Setup → Point → Type 0
Never d setup point = (t : ℕ) → NotWithin d setup point t

-- every run of the stimulus hits the point at judged cycle t, with which it ends, and at none before
pub record HitAt (d : Design) (setup : Setup) (point : Point) (s : Stimulus) (t : ℕ) : Type 0 where
  pub fits : Fits d setup s
  pub ends : length s.lines ≡ setup.cycles + t + 1
  pub hits : (vs : List (List Bool)) → IsRun d s.start s.lines vs → point (drop setup.cycles vs) t
  pub first : (vs : List (List Bool)) → IsRun d s.start s.lines vs → (u : ℕ) → u < t → point (drop setup.cycles vs) u → ⊥
