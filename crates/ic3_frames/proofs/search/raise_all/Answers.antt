use Rattle.std.proofs.Common.{rules}
use Rattle.ic3_frames.proofs.Distinct.{distinct_next}
use Rattle.ic3_frames.proofs.search.raise_all.Goals as goal

pub loop-level-preserved : goal.loop-level-preserved
loop-level-preserved c =
    let left = rw c.in-Left.is at c.in_ok-raise_level.ensures.left in
    record {
      kept = c.raise_level.ensures.kept;
      point = search rules;
      depth = search rules;
      distinct = distinct_next c.args.system.now c.loop-level.level c.loop-level.frames.lemmas c.raise_level.new.self.lemmas c.raise_level.ensures.kept.lands c.raise_level.ensures.same left
          c.loop-level.invariant.distinct;
      uses = search rules;
    }
