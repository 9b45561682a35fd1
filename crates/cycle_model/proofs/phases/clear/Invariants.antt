use Rattle.std.proofs.Common.{◌≡◌, ℕ, ◌<◌, false}
use Rattle.bit_exprs.specs.Values.{bit_at}
use Rattle.cycle_model.proofs.phases.clear.Given as goal

abbrev pub invariant-loop-mark : goal.invariant-loop-mark
invariant-loop-mark l = (k : ℕ) → k < l.mark-index → bit_at l.marks k ≡ false
