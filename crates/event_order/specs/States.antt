-- What the machine is at a moment.
use Rattle.std.specs.Prelude.{ℕ, zero, suc, ◌≡◌, Bool, false, not, ◌&&◌, ◌||◌, List, [], ◌∷◌, length}
use Rattle.design_core.specs.declared.flat.Process.{Process}
use Rattle.bit_exprs.specs.Values.{bit_at}
use Rattle.design_core.specs.Exec.{xor}
use Rattle.design_core.specs.Drive.{needs}
use Rattle.design_core.specs.Settled.{is_clocked}

-- before the first cycle, before a cycle's clock edge, after it
pub data Phase : Type 0 where
  Fresh : Phase
  Settling : Phase
  Clocked : Phase

-- the values of all bits, a flag for each process that is pending, the updates that wait, and the phase
pub record State : Type 0 where
  pub values : List Bool
  pub pending : List Bool
  pub waiting : List (ℕ × Bool)
  pub phase : Phase

-- no process is pending
abbrev pub IsIdle : State → Type 0
IsIdle s = (k : ℕ) → bit_at s.pending k ≡ false

-- nothing is pending or waiting
pub record IsQuiet (s : State) : Type 0 where
  pub idle : IsIdle s
  pub done : s.waiting ≡ []

-- it holds of some number below n
abbrev pub some_below : ℕ → (ℕ → Bool) → Bool
some_below zero f = false
some_below (suc n) f = some_below n f || f n

-- a change from v to w wakes a combinational process that reads a changed bit before assigning it
abbrev pub wakes : Process → List Bool → List Bool → Bool
wakes p v w = not (is_clocked p.kind) && some_below (length v) (λ b. needs p.body b && xor (bit_at v b) (bit_at w b))

-- the flags of the processes that pass a test come up
abbrev pub raised : (Process → Bool) → List Process → List Bool → List Bool
raised test [] flags = []
raised test (p ∷ ps) [] = []
raised test (p ∷ ps) (f ∷ flags) = (f || test p) ∷ raised test ps flags

-- the flags after a change from v to w
abbrev pub woken : List Process → List Bool → List Bool → List Bool → List Bool
woken ps v w flags = raised (λ p. wakes p v w) ps flags
