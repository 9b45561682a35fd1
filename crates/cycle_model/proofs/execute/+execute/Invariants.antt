use Rattle.std.proofs.Common.{◌≡◌, drop}
use Rattle.cycle_model.proofs.Blocks.{after_each}
use Rattle.cycle_model.proofs.execute.+execute.Given as goal

abbrev pub invariant-loop-s : goal.invariant-loop-s
invariant-loop-s l =
    after_each (drop l.s-index l.s-items) (record { values = l.values; next = l.next; marks = l.marks })
    ≡ after_each l.s-items (record { values = l.initial.values; next = l.initial.next; marks = l.initial.marks })
