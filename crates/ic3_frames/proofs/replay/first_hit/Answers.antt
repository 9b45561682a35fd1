use Rattle.std.proofs.Common.{◌∙◌, arith}
use Rattle.ic3_frames.proofs.Replays.{input_at, replayed, replayed_state, replayed_none, last_hit}
use Rattle.ic3_frames.proofs.replay.first_hit.Goals as goal

pub values_in_step-requires-clause-input : goal.values_in_step-requires-clause-input
values_in_step-requires-clause-input c =
    input_at c.args.system.now c.args.point c.args.walk.now c.as_slice-lines.result.now c.loop-at.at c.index-lines-at.result c.as_slice-in-loop-at-2.result.now
    c.requires.trace c.as_slice-lines.ensures c.index-lines-at.is (omega arith) c.as_slice-in-loop-at-2.ensures

pub loop-at-preserved : goal.loop-at-preserved
loop-at-preserved c =
    let state = c.as_slice-in-loop-at.ensures ∙ c.loop-at.invariant.state in
    let new = c.in_ok-state-2.ensures in
    let values = c.deref-in-loop-at.ensures.value ∙ c.in_ok-values.ensures.values in
    let shown = c.deref.ensures.value ∙ c.in_ok-values.ensures.values in
    record {
      is_state = replayed_state c.args.system.now c.hit-hit.ensures.valid c.as_slice-in-loop-at-2.result.now c.as_slice-in-loop-at.result.now c.in_ok-state-2.state c.deref-in-loop-at.result.now values new;
      state = replayed c.args.system.now c.args.walk.now.start c.as_slice-lines.result.now c.loop-at.at c.index-lines-at.result c.as_slice-in-loop-at-2.result.now
          c.as_slice-in-loop-at.result.now c.in_ok-state-2.state c.deref-in-loop-at.result.now c.index-lines-at.is (omega arith) c.as_slice-in-loop-at-2.ensures state values new;
      none = replayed_none c.args.system.now c.args.point c.args.walk.now c.as_slice-lines.result.now c.loop-at.at c.index-lines-at.result c.as_slice-in-loop-at-2.result.now
          c.as_slice-in-loop-at.result.now c.deref.result.now c.hit-hit.result c.value_at.result c.as_slice-lines.ensures c.index-lines-at.is (omega arith) c.as_slice-in-loop-at-2.ensures
          state shown c.hit-hit.ensures.value c.value_at.ensures c.if-value_at.false c.loop-at.invariant.none;
    }

pub returns : goal.returns
returns c =
    last_hit c.args.system.now c.args.point c.args.walk.now c.as_slice-lines.result.now c.loop-at.at c.requires.trace c.as_slice-lines.ensures (omega arith) c.loop-at.invariant.none
