use Rattle.std.proofs.Common.{true, false, length, ◌∙◌}
use Rattle.std.proofs.lemmas.List.{length-replicate, length-set}
use Rattle.settle_order.specs.Loops.{Feeds}
use Rattle.settle_order.proofs.Flags.{none_on}
use Rattle.settle_order.proofs.Placing.{left_driver, has_driver, reaches_more}
use Rattle.settle_order.proofs.search.looped.Goals as goal

pub loop-seen-init : goal.loop-seen-init
loop-seen-init c = record {
  unknown = c.awaited-bit.ensures.unknown;
  within = c.requires.net.needed c.args.node c.awaited-bit.result c.awaited-bit.ensures.needed;
  size = rw c.in_ok-seen.ensures (length-replicate (length c.args.table.now) false);
  reaches = λ x e. absurd (none_on (length c.args.table.now) x (rw c.in_ok-seen.ensures at e));
}

pub driver-requires : goal.driver-requires
driver-requires c = has_driver c.args.nodes.now (length c.args.table.now) c.args.sweep.now c.args.table.now c.loop-seen.bit c.requires.table c.requires.stuck c.loop-seen.invariant.within c.loop-seen.invariant.unknown

pub awaited-bit-requires-in-loop-seen-clause-left : goal.awaited-bit-requires-in-loop-seen-clause-left
awaited-bit-requires-in-loop-seen-clause-left c =
    left_driver c.args.nodes.now (length c.args.table.now) c.args.sweep.now c.driver.result c.loop-seen.bit c.requires.net c.requires.stuck c.loop-seen.invariant.unknown
    (c.requires.table.drives c.driver.result c.loop-seen.bit c.driver.ensures)

pub loop-seen-preserved : goal.loop-seen-preserved
loop-seen-preserved c =
    let next = c.awaited-bit-in-loop-seen.result in
    let feeds : Feeds c.args.nodes.now c.awaited-bit-in-loop-seen.result c.loop-seen.bit = record { by = c.driver.result; needs = c.awaited-bit-in-loop-seen.ensures.needed; drives = c.requires.table.drives c.driver.result c.loop-seen.bit c.driver.ensures } in
    record {
      unknown = c.awaited-bit-in-loop-seen.ensures.unknown;
      within = c.requires.net.needed c.driver.result next c.awaited-bit-in-loop-seen.ensures.needed;
      size = length-set c.loop-seen.seen.items c.loop-seen.bit true ∙ c.loop-seen.invariant.size;
      reaches = reaches_more c.args.nodes.now c.loop-seen.seen.items c.loop-seen.bit next feeds c.loop-seen.invariant.reaches;
    }
