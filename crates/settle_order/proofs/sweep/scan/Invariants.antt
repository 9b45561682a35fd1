use Rattle.settle_order.specs.Sweeping.{IsScanned}
use Rattle.settle_order.proofs.sweep.scan.Given as goal

abbrev pub invariant-loop-at : goal.invariant-loop-at
invariant-loop-at l = IsScanned l.known l.needs l.at
