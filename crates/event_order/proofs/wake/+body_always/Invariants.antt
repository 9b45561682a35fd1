use Rattle.std.proofs.Common.{◌≡◌, drop}
use Rattle.design_core.specs.Drive.{always}
use Rattle.event_order.proofs.Scan.{each, or_always}
use Rattle.event_order.proofs.wake.+body_always.Given as goal

abbrev pub invariant-loop-s : goal.invariant-loop-s
invariant-loop-s l = each (or_always l.bit) (drop l.s-index l.s-items) ≡ always l.body l.bit
