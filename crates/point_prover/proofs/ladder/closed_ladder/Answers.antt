use Rattle.point_prover.proofs.Whole.{closed_in, closed_whole}
use Rattle.point_prover.proofs.ladder.closed_ladder.Goals as goal

pub whole_lemmas-requires : goal.whole_lemmas-requires
whole_lemmas-requires c =
    rw (c.as_slice.ensures, c.in_ok-lemmas.ensures, c.lemmas.ensures)
    (closed_in c.args.system.now c.args.cone.now c.node_count-nodes.ensures.valid c.requires.cone c.args.frames.now c.args.level c.requires.kept c.requires.closed)

pub ladder_of-requires : goal.ladder_of-requires
ladder_of-requires c =
    rw (c.in_ok-lemmas-2.ensures, c.as_slice.ensures, c.in_ok-lemmas.ensures, c.lemmas.ensures)
    (closed_whole c.args.system.now c.args.cone.now c.node_count-nodes.ensures.valid c.requires.cone c.args.frames.now c.args.level c.requires.kept c.requires.point c.requires.closed)
