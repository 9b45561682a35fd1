use Rattle.std.proofs.Common.{◌<◌, length, arith}
use Rattle.std.proofs.lemmas.List.{take_rest}
use Rattle.vlog_tokens.proofs.Closing.{before_turn}
use Rattle.vlog_tokens.proofs.gap.bytes_before.Goals as goal

pub loop-end-preserved : goal.loop-end-preserved
loop-end-preserved c =
    let more : c.loop-end.end < length c.args.text.now = omega arith in
    before_turn c.args.first c.args.second c.loop-end.end c.args.text.now _ _ _ (take_rest c.args.text.now c.loop-end.end) more c.loop-end.invariant.0 c.begins_with_both.ensures c.if-not-begins_with_both.true
