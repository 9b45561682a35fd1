-- Each bit has one driver.
use Rattle.std.proofs.Common.{◌≡◌, ℕ, true, false, length, ◌<◌, ◌≢◌, List}
use Rattle.std.specs.Prelude.{Contains}
use Rattle.std.proofs.lemmas.Option.{slice_get-get_or}
use Rattle.design_core.specs.declared.flat.Design.{Design}
use Rattle.design_core.specs.Drive.{drives}
use Rattle.design_core.specs.Settled.{is_clocked}
use Rattle.design_core.specs.Legality.{idle, process_at, IsLegal}
use Rattle.event_order.proofs.Bodies.{not_both}

-- no two processes drive a bit, and a clocked process drives registers
pub record HasOneDriver (d : Design) : Type 0 where
  pub one : (j k b : ℕ) → j < length d.processes → k < length d.processes →
      drives (process_at d j).body b ≡ true → drives (process_at d k).body b ≡ true → j ≡ k
  pub registers : (k b : ℕ) → k < length d.processes → is_clocked (process_at d k).kind ≡ true →
      drives (process_at d k).body b ≡ true → Contains d.registers b

pub one_driver_each : (d : Design) (order : List ℕ) → IsLegal d order → HasOneDriver d
one_driver_each d order legal = record {
  one = λ j k b lj lk x y. legal.one_driver j k b (process_at d j) (process_at d k) (slice_get-get_or d.processes j idle lj) (slice_get-get_or d.processes k idle lk) x y;
  registers = λ k b lt c x. legal.clocked k idle lt c b x;
}

-- a bit that is no register is driven by no clocked process
pub unclocked : (d : Design) (one : HasOneDriver d) (b : ℕ) → (Contains d.registers b → ⊥) → (k : ℕ) → k < length d.processes → is_clocked (process_at d k).kind ≡ true → drives (process_at d k).body b ≡ false
unclocked d one b other k lt c = not_both (drives (process_at d k).body b) (λ h. other (one.registers k b lt c h))

pub only_driver : (d : Design) (one : HasOneDriver d) (j k b : ℕ) → j < length d.processes → k < length d.processes → drives (process_at d k).body b ≡ true → j ≢ k → drives (process_at d j).body b ≡ false
only_driver d one j k b lj lk drive ne = not_both (drives (process_at d j).body b) (λ h. ne (one.one j k b lj lk h drive))
