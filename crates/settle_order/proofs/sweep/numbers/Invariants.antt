use Rattle.std.proofs.Common.{◌≡◌, ℕ, ◌<◌, length, get_or}
use Rattle.settle_order.proofs.sweep.numbers.Given as goal

abbrev pub invariant-loop-k : goal.invariant-loop-k
invariant-loop-k l = record {
  size : length l.all.items ≡ l.k;
  each : (j : ℕ) → j < l.k → get_or l.all.items j 0 ≡ j;
}
