use Rattle.ic3_frames.proofs.Traces.{trace_is}
use Rattle.ic3_frames.proofs.search.walk_of.Goals as goal

pub returns : goal.returns
returns c =
    trace_is c.args.system.now c.args.point c.node_count-nodes.ensures.valid c.in_ok-start.start c.in_ok-lines.lines c.args.first c.args.rest.now
    c.requires.chain c.requires.start (rw c.as_slice.ensures at c.in_ok-start.ensures) c.in_ok-lines.ensures
