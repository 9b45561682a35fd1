use Rattle.ic3_frames.proofs.Laws.{none_blocks}
use Rattle.ic3_frames.proofs.Traces.{starts_before}
use Rattle.ic3_frames.proofs.search.lead.Goals as goal

pub block-requires-clause-learnable : goal.block-requires-clause-learnable
block-requires-clause-learnable c =
    let found = rw c.in-Refuted.is at c.in_ok-query_step.ensures.finds in
    rw c.in_ok-query_step.ensures.same (record {
      is_cube = c.requires.chain.0.is_cube;
      misses = c.requires.misses;
      blocked = none_blocks _ _ _ _ found.0;
    })

pub put_before-requires-clause-starts : goal.put_before-requires-clause-starts
put_before-requires-clause-starts c =
    let found = rw c.in-Found.is at c.in_ok-query_step.ensures.finds in
    starts_before _ _ _ _ _ _ found.0
