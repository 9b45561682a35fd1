use Rattle.std.proofs.Common.{◌≡◌, length}
use Rattle.order_tests.proofs.design.bits.Given as goal

abbrev pub invariant-loop : goal.invariant-loop
invariant-loop l = length l.bits ≡ l.counter
