use Rattle.std.proofs.Common.{◌-◌, arith}
use Rattle.point_prover.proofs.Whole.{depth_in, depth_whole}
use Rattle.point_prover.proofs.ladder.depth_ladder.Goals as goal

pub whole_lemmas-requires : goal.whole_lemmas-requires
whole_lemmas-requires c =
    rw (c.as_slice.ensures, c.in_ok-lemmas.ensures, c.lemmas.ensures)
    (depth_in c.args.system.now c.args.cone.now c.node_count-nodes.ensures.valid c.requires.cone c.args.frames.now c.depth-depth.result (c.depth-depth.result - 1) c.requires.kept
    c.depth-depth.ensures (omega arith))

pub ladder_of-requires : goal.ladder_of-requires
ladder_of-requires c =
    rw (c.in_ok-lemmas-2.ensures, c.as_slice.ensures, c.in_ok-lemmas.ensures, c.lemmas.ensures)
    (depth_whole c.args.system.now c.args.cone.now c.node_count-nodes.ensures.valid c.requires.cone c.args.frames.now c.depth-depth.result (c.depth-depth.result - 1) c.requires.kept c.requires.point
    c.depth-depth.ensures (omega arith))
