use Rattle.std.proofs.Common.{arith}
use Rattle.point_cone.proofs.Naming.{leaves_none, leaves_skip, leaves_more}
use Rattle.point_cone.proofs.rename.name_leaves.Goals as goal
use Rattle.point_cone.proofs.rename.name_leaves.Goals.{then-marks-node+in_ok-push, else-marks-node}

pub loop-k-init : goal.loop-k-init
loop-k-init c = rw c.new-places.ensures (leaves_none c.args.marks.now c.args.names.now c.args.first c.args.from)

pub loop-k-preserved : goal.loop-k-preserved
loop-k-preserved c = elim c.if-marks-node.branch [
  | then-marks-node+in_ok-push w ↦
      rw (w.names-is, w.places-is, w.in_ok-push.ensures.ok, w.len.ensures)
      (leaves_more c.args.marks.now c.args.names.now c.loop-k.names c.args.first c.loop-k.k c.args.from c.loop-k.places c.loop-k.invariant w.if-marks-node.true
      (omega (arith, c.requires.names, c.loop-k.auto.names, c.loop-k-test.true)))
  | else-marks-node w ↦
      rw (w.names-is, w.places-is)
      (leaves_skip c.args.marks.now c.args.names.now c.loop-k.names c.args.first c.loop-k.k c.args.from c.loop-k.places c.loop-k.invariant w.if-marks-node.false)
]
