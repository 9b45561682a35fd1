use Rattle.point_prover.proofs.Whole.{walk_whole}
use Rattle.point_prover.proofs.walk.whole_walk.Goals as goal

pub returns : goal.returns
returns c =
    let start = rw c.as_slice.ensures at c.in_ok-start.ensures.part in
    let lines = rw c.as_slice-2.ensures at c.in_ok-lines.ensures.parts in
    walk_whole c.args.system.now c.args.cone.now c.in_ok-start.start c.args.walk.now.start c.in_ok-lines.lines c.args.walk.now.lines c.node_count-nodes.ensures.valid c.requires.cone
    c.in_ok-start.ensures.start c.in_ok-lines.ensures.inputs start lines c.requires.walk
