use Rattle.std.proofs.Common.{length}
use Rattle.vlog_tokens.proofs.Scanning.{IsScanned}
use Rattle.vlog_tokens.proofs.directive.first_backquote.Given as goal

abbrev pub invariant-loop-rest : goal.invariant-loop-rest
invariant-loop-rest l = IsScanned l.text l.at l.rest

abbrev pub decreases-loop-rest : goal.decreases-loop-rest
decreases-loop-rest l = length l.rest
