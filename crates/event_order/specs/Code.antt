-- What the code keeps.
use Rattle.std.specs.Prelude.{ℕ, ◌≡◌, ◌+◌, ◌-◌, ◌<◌, ◌^◌, min, Bool, List, [], ◌∷◌, length, All}
use Rattle.design_core.specs.declared.flat.Stmt.{Stmt}
use Rattle.design_core.specs.declared.flat.Design.{Design}
use Rattle.design_core.specs.Bounds.{IsWithin}
use Rattle.event_order.specs.States.{State, Phase}
use Rattle.event_order.specs.Steps.{Step}
use Rattle.event_order.specs.Numbers.{Follows}

-- the body can be executed on values of n bits
abbrev pub NamesBelow : Stmt → ℕ → Type 0
NamesBelow s n = (sites : ℕ) × IsWithin s n sites

-- each update is of a bit below n
abbrev pub UpdatesBelow : List (ℕ × Bool) → ℕ → Type 0
UpdatesBelow us n = All (λ u. u.0 < n) us

-- a state, in a phase that the code doesn't hold
abbrev pub moment : List Bool → List Bool → List (ℕ × Bool) → Phase → State
moment values pending waiting phase = record { values = values; pending = pending; waiting = waiting; phase = phase }

-- the number x names one step from s to t, whichever the phase, and is y after it
pub record Stepped (d : Design) (x : ℕ) (s : Phase → State) (y : ℕ) (t : Phase → State) : Type 0 where
  pub step : Step
  pub follows : (p : Phase) → Follows d x (s p) (step ∷ []) y (t p)

-- the number x names some steps from s to t, and is y after them; they are counted
pub record Gone (d : Design) (x : ℕ) (s : Phase → State) (turns y : ℕ) (t : Phase → State) (turns' : ℕ) : Type 0 where
  pub steps : List Step
  pub follows : (p : Phase) → Follows d x (s p) steps y (t p)
  pub counted : turns' ≡ min (turns + length steps) (2 ^ 64 - 1)
