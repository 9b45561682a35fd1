use Rattle.std.proofs.Common.{◌≡◌, drop}
use Rattle.design_core.specs.Legality.{bodies}
use Rattle.cycle_model.proofs.Blocks.{after_each}
use Rattle.cycle_model.proofs.phases.settle.Given as goal

abbrev pub invariant-loop-k : goal.invariant-loop-k
invariant-loop-k l =
    after_each (drop l.k-index (bodies l.design l.order)) (record { values = l.values; next = l.next; marks = l.marks })
    ≡ after_each (bodies l.design l.order) (record { values = l.initial.values; next = l.initial.next; marks = l.initial.marks })
