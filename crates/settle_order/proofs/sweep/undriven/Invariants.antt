use Rattle.std.proofs.Common.{◌≡◌, ◌↔◌, ℕ, ◌<◌, true, None, length, get_or}
use Rattle.settle_order.specs.Sweeping.{on}
use Rattle.settle_order.proofs.sweep.undriven.Given as goal

abbrev pub invariant-loop-driver : goal.invariant-loop-driver
invariant-loop-driver l = record {
  size : length l.known ≡ l.driver-index;
  each : (b : ℕ) → b < l.driver-index → (on l.known b ≡ true) ↔ (get_or l.table b None ≡ None);
}
