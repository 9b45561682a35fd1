use Rattle.std.proofs.Common.{◌≡◌, drop}
use Rattle.design_core.specs.Drive.{needs}
use Rattle.event_order.proofs.Scan.{each, or_needs}
use Rattle.event_order.proofs.wake.+body_needs.Given as goal

abbrev pub invariant-loop-s : goal.invariant-loop-s
invariant-loop-s l = each (or_needs l.bit) (drop l.s-index l.s-items) ≡ needs l.body l.bit
