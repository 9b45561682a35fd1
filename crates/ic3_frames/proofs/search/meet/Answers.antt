use Rattle.ic3_frames.proofs.Traces.{chain_one}
use Rattle.ic3_frames.proofs.search.meet.Goals as goal

pub block_all-requires-clause-chain : goal.block_all-requires-clause-chain
block_all-requires-clause-chain c =
    let found = rw c.in-Found.is at c.in_ok-query_hit.ensures.finds in
    let lifted = rw (c.hit-hit.ensures.value, c.point.ensures) at c.in_ok-first-in-Found.ensures in
    chain_one c.args.system.now c.args.frames.now.point c.depth-depth.result _ c.in-Found.state c.in-Found.input c.in_ok-first-in-Found.first found.0 lifted
