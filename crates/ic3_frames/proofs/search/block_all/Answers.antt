use Rattle.std.proofs.Common.{rules}
use Rattle.ic3_frames.proofs.search.block_all.Goals as goal

pub loop-stack-preserved : goal.loop-stack-preserved
loop-stack-preserved c =
    let chain = rw c.in-More.is at c.in_ok-advance.ensures.chain in
    record {
      kept = c.advance.ensures.kept;
      chain = rw c.loop-stack.invariant.point at chain;
      point = search rules;
      depth = search rules;
      uses = search rules;
    }
