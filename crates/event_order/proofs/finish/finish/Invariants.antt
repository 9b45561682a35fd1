use Rattle.event_order.specs.Code.{UpdatesBelow, moment, Gone}
use Rattle.std.proofs.Common.{length}
use Rattle.event_order.specs.Work.{work}
use Rattle.event_order.proofs.finish.finish.Given as goal

abbrev pub invariant-loop-more : goal.invariant-loop-more
invariant-loop-more l = record {
  gone : Gone l.design l.fn.progress.number (moment l.initial.values l.initial.pending l.initial.waiting.items) l.fn.progress.turns l.number (moment l.values l.pending l.waiting.items) l.turns;
  below : UpdatesBelow l.waiting.items (length l.design.bits);
}

abbrev pub decreases-loop-more : goal.decreases-loop-more
decreases-loop-more l = work l.design l.order l.pending l.waiting.items
