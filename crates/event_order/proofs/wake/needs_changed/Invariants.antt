use Rattle.std.proofs.Common.{◌≡◌, ◌&&◌, false}
use Rattle.bit_exprs.specs.Values.{bit_at}
use Rattle.design_core.specs.Exec.{xor}
use Rattle.design_core.specs.Drive.{needs}
use Rattle.event_order.specs.States.{some_below}
use Rattle.event_order.proofs.wake.needs_changed.Given as goal

abbrev pub invariant-loop-bit : goal.invariant-loop-bit
invariant-loop-bit l = some_below l.bit (λ b. needs l.body b && xor (bit_at l.old b) (bit_at l.new b)) ≡ false
