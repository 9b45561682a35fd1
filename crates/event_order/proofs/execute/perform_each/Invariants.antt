use Rattle.std.proofs.Common.{◌≡◌, drop}
use Rattle.bit_exprs.specs.Updates.{perform}
use Rattle.event_order.proofs.execute.perform_each.Given as goal

abbrev pub invariant-loop-bit : goal.invariant-loop-bit
invariant-loop-bit l = perform (drop l.bit-index l.updates) l.values ≡ perform l.updates l.initial.values
