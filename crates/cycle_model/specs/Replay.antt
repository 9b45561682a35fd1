-- The first hit of a site in a run of given lines.
use Rattle.std.specs.Prelude.{ℕ, ◌<◌, ◌≤◌, Bool, List, length, Option, Some, None}
use Rattle.design_core.specs.declared.flat.Design.{Design}
use Rattle.design_core.specs.Runs.{IsRun}
use Rattle.design_core.specs.Verdicts.{Passes}

-- from the cycle `skip` on and before the cycle `end` the site is not hit
abbrev pub NoHit : Design → ℕ → ℕ → ℕ → List (List Bool) → Type 0
NoHit d skip end site vs = (u : ℕ) → skip ≤ u → u < end → Passes d site vs u → ⊥

-- from these registers every run of the lines hits the site first, from the cycle `skip` on, in the cycle found, or in none
abbrev pub FirstHit : Design → List Bool → List (List Bool) → ℕ → ℕ → Option ℕ → Type 0
FirstHit d held lines skip site None = (vs : List (List Bool)) → IsRun d held lines vs → NoHit d skip (length lines) site vs
FirstHit d held lines skip site (Some k) =
    (skip ≤ k) × (k < length lines) × ((vs : List (List Bool)) → IsRun d held lines vs → Passes d site vs k × NoHit d skip k site vs)
