-- When a cycle may begin.
use Rattle.std.specs.Prelude.{ℕ, ◌≡◌, ◌<◌, Bool, true, false, List, [], length}
use Rattle.design_core.specs.declared.flat.Design.{Design}
use Rattle.bit_exprs.specs.Updates.{perform}
use Rattle.bit_exprs.specs.Values.{bit_at}
use Rattle.design_core.specs.Exec.{exec}
use Rattle.design_core.specs.Drive.{drives}
use Rattle.design_core.specs.Settled.{is_clocked}
use Rattle.design_core.specs.Legality.{process_at}
use Rattle.event_order.specs.States.{State}
use Rattle.event_order.specs.Cycles.{flags_at, is_first, is_reset}

-- each combinational process whose flag is down leaves the values
abbrev pub Stable : Design → List Bool → List Bool → Type 0
Stable d flags v = (k : ℕ) → k < length d.processes → is_clocked (process_at d k).kind ≡ false → bit_at flags k ≡ false → (exec (process_at d k).body v).values ≡ v

-- a cycle may begin at s
pub record IsReady (d : Design) (s : State) : Type 0 where
  pub wide : length s.values ≡ length d.bits
  pub flags : length (flags_at d s) ≡ length d.processes
  pub none : s.waiting ≡ []
  pub asleep : (k : ℕ) → k < length d.processes → is_clocked (process_at d k).kind ≡ true → bit_at (flags_at d s) k ≡ false
  pub stable : Stable d (flags_at d s) s.values
  -- where a reset was active, its registers have what it gives
  pub kept : is_first s.phase ≡ false → (k b : ℕ) → k < length d.processes → is_reset (process_at d k) s.values ≡ true → drives (process_at d k).body b ≡ true →
      bit_at (perform (exec (process_at d k).body s.values).updates s.values) b ≡ bit_at s.values b
