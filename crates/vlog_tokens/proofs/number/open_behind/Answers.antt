use Rattle.std.proofs.Common.{◌%◌, ◌^◌}
use Rattle.std.proofs.lemmas.List.{take_rest}
use Rattle.vlog_tokens.specs.Numbers.{spelled, open_bits}
use Rattle.vlog_tokens.proofs.Digits.{open_turn}
use Rattle.vlog_tokens.proofs.number.open_behind.Goals as goal

pub loop-rest-preserved : goal.loop-rest-preserved
loop-rest-preserved c = open_turn (open_bits c.args.radix) c.args.radix (2 ^ 128) c.loop-rest.bits c.with_open_bits-bits.result c.loop-rest.rest.now _ (spelled (open_bits c.args.radix) c.args.radix c.args.filling c.args.digits.now % 2 ^ 128) (take_rest c.loop-rest.rest.now 1) c.in-len1-up.len_at_least c.loop-rest.invariant c.with_open_bits-bits.ensures
