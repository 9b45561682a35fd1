use Rattle.std.proofs.Common.{◌+◌, drop, ◌∙◌, subst}
use Rattle.std.proofs.lemmas.List.{drop_more}
use Rattle.settle_order.specs.Sweeping.{IsSwept}
use Rattle.settle_order.proofs.sweep.Sweep.watch_all.Goals as goal

pub loop-node-preserved : goal.loop-node-preserved
loop-node-preserved c =
    let next = drop_more c.args.loose.now c.loop-node.node-index 0 c.loop-node-test.true in
    let same = c.in_ok-watch.ensures.same in
    let before = c.loop-node.invariant.same in
    record {
      swept = c.in_ok-watch.ensures.swept (drop (c.loop-node.node-index + 1) c.args.loose.now) (subst (IsSwept c.args.nodes.now c.loop-node.self) next c.loop-node.invariant.swept);
      same = record { known = same.known ∙ before.known; placed = same.placed ∙ before.placed; order = same.order ∙ before.order };
    }
