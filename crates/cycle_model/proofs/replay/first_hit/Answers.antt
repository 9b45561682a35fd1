use Rattle.std.proofs.Common.{◌∙◌, arith}
use Rattle.cycle_model.proofs.Hits.{cycle_more, cycle_hit, flag_read, replay_none}
use Rattle.cycle_model.proofs.replay.first_hit.Goals as goal
use Rattle.cycle_model.proofs.replay.first_hit.Goals.{else-k-skip-via-then-k-skip+else-index, else-k-skip-via-else-k-skip}

pub returns-then-index : goal.returns-then-index
returns-then-index c =
    cycle_hit _ _ c.loop-k.invariant.0 _ _ c.args.skip c.args.site c.loop-k.k _ c.as_slice.result.now c.cycle.new.self.values c.cycle.new.self.held c.cycle.new.self.marks _ c.loop-k-test.true
    (c.as_slice.ensures ∙ c.index-lines-k.is) c.cycle.ensures.settled c.cycle.ensures.held c.cycle.ensures.marks c.requires.site c.loop-k.invariant.1 c.if-k-skip.true
    (flag_read c.cycle.new.self.legal _ _ _ _ _ _ (c.cycle.ensures.legal ∙ c.loop-k.invariant.0) c.marks.ensures.long c.requires.site c.marks.ensures.marks c.index.ensures c.if-index.true)

pub loop-k-preserved : goal.loop-k-preserved
loop-k-preserved c = (
  c.cycle.ensures.legal ∙ c.loop-k.invariant.0,
  cycle_more _ _ c.loop-k.invariant.0 _ _ c.args.skip c.args.site c.loop-k.k _ c.as_slice.result.now c.cycle.new.self.values c.cycle.new.self.held c.cycle.new.self.marks _ c.loop-k-test.true
      (c.as_slice.ensures ∙ c.index-lines-k.is) c.cycle.ensures.settled c.cycle.ensures.held c.cycle.ensures.marks c.requires.site c.loop-k.invariant.1
      (elim c.else-k-skip.branch [
        | else-k-skip-via-then-k-skip+else-index w ↦ λ le. flag_read c.cycle.new.self.legal _ _ _ _ _ _ (c.cycle.ensures.legal ∙ c.loop-k.invariant.0) w.marks.ensures.long c.requires.site w.marks.ensures.marks w.index.ensures w.if-index.false
        | else-k-skip-via-else-k-skip w ↦ λ le. absurd (omega (arith, w.if-k-skip.false))
      ]),
)

pub returns : goal.returns
returns c = replay_none _ _ _ _ _ _ _ c.loop-k-test.false c.loop-k.invariant.1
