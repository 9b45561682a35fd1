use Rattle.std.proofs.Common.{length}
use Rattle.vlog_tokens.proofs.Reading.{IsUpTo}
use Rattle.vlog_tokens.proofs.divide.divided.Given as goal

abbrev pub invariant-loop-rest : goal.invariant-loop-rest
invariant-loop-rest l = IsUpTo l.text l.from l.at l.rest l.found

abbrev pub decreases-loop-rest : goal.decreases-loop-rest
decreases-loop-rest l = length l.rest
