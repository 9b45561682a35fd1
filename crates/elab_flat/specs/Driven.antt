-- Which process drives each register.
use Rattle.std.specs.Prelude.{ℕ, ◌≡◌, true, List, slice_get, Some, Contains}
use Rattle.design_core.specs.declared.flat.Process.{Process}
use Rattle.design_core.specs.Drive.{drives}

-- the k-th process drives the bit
abbrev pub DrivesBit : List Process → ℕ → ℕ → Type 0
DrivesBit ps k b = (p : Process) × (slice_get ps k ≡ Some p) × (drives p.body b ≡ true)

-- each bit that is driven is a register, and each register is driven by exactly one process
pub record IsDriven (ps : List Process) (registers : List ℕ) : Type 0 where
  pub registers_alone : (k b : ℕ) → DrivesBit ps k b → Contains registers b
  pub each : (b : ℕ) → Contains registers b → (k : ℕ) × DrivesBit ps k b
  pub once : (j k b : ℕ) → DrivesBit ps j b → DrivesBit ps k b → j ≡ k
