use Rattle.std.proofs.Common.{length, ◌≡◌, ◌%◌, ◌^◌}
use Rattle.vlog_tokens.specs.Numbers.{spelled, open_bits}
use Rattle.vlog_tokens.proofs.number.open_behind.Given as goal

abbrev pub invariant-loop-rest : goal.invariant-loop-rest
invariant-loop-rest l = spelled (open_bits l.radix) l.radix l.bits l.rest % 2 ^ 128 ≡ spelled (open_bits l.radix) l.radix l.fn.filling l.digits % 2 ^ 128

abbrev pub decreases-loop-rest : goal.decreases-loop-rest
decreases-loop-rest l = length l.rest
