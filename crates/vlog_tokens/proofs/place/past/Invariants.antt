use Rattle.std.proofs.Common.{◌≡◌, length, ◌+◌, ◌^◌, ◌<◌}
use Rattle.vlog_tokens.specs.Places.{past}
use Rattle.vlog_tokens.proofs.place.past.Given as goal

abbrev pub invariant-loop-rest : goal.invariant-loop-rest
invariant-loop-rest l = (past l.place l.rest ≡ past l.fn.at l.bytes) × (l.place.line + length l.rest < 2 ^ 32) × (l.place.col + length l.rest < 2 ^ 32)

abbrev pub decreases-loop-rest : goal.decreases-loop-rest
decreases-loop-rest l = length l.rest
