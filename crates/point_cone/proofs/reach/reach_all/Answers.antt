use Rattle.std.proofs.Common.{arith}
use Rattle.point_cone.proofs.Reaching.{under_start, under_end, none_left}
use Rattle.point_cone.proofs.reach.reach_all.Goals as goal

pub loop-node-init : goal.loop-node-init
loop-node-init c =
    let reached = rw (c.hit.ensures.value, c.requires.marks, c.new-waiting.ensures.items) at c.in_ok-reach.ensures in
    record {
      under = under_start c.args.system.now c.args.point c.reach.new.marks c.reach.new.waiting.items c.hit.ensures.valid (omega arith) reached;
      hit = reached.marked;
    }

pub returns : goal.returns
returns c =
    let none = none_left c.loop-node.waiting.items c.pop.new.self.items c.loop-node.waiting.len c.in_default.ensures.cases.0 c.in_default.ensures.items c.in_default.ensures.rest in
    under_end c.args.system.now c.args.point c.loop-node.marks (rw none at c.loop-node.invariant.under) c.loop-node.invariant.hit
