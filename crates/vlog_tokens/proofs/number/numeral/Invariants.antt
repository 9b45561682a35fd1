use Rattle.std.proofs.Common.{length, ◌≡◌, ◌<◌, ◌^◌}
use Rattle.vlog_tokens.specs.Numbers.{spelled, digit_value, numeral}
use Rattle.vlog_tokens.proofs.number.numeral.Given as goal

abbrev pub invariant-loop-rest : goal.invariant-loop-rest
invariant-loop-rest l = (spelled digit_value l.radix l.value l.rest ≡ numeral l.radix l.digits) × (l.value < 2 ^ 128)

abbrev pub decreases-loop-rest : goal.decreases-loop-rest
decreases-loop-rest l = length l.rest
