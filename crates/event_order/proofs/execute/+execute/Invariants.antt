use Rattle.std.proofs.Common.{◌≡◌, drop}
use Rattle.event_order.proofs.Listing.{laid_each}
use Rattle.event_order.proofs.execute.+execute.Given as goal

abbrev pub invariant-loop-s : goal.invariant-loop-s
invariant-loop-s l =
    laid_each (drop l.s-index l.s-items) (record { values = l.values; waiting = l.waiting.items })
    ≡ laid_each l.s-items (record { values = l.initial.values; waiting = l.initial.waiting.items })
