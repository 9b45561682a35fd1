use Rattle.point_cone.proofs.Reaching.{reaches_same, reaches_new}
use Rattle.point_cone.proofs.reach.reach.Goals as goal

pub returns-then-marks-node : goal.returns-then-marks-node
returns-then-marks-node c = reaches_same c.args.node c.args.marks.now c.args.waiting.now.items c.if-marks-node.true

pub returns : goal.returns
returns c = rw c.in_ok-push.ensures.items (reaches_new c.args.node c.args.marks.now c.args.waiting.now.items c.requires c.if-marks-node.false)
