-- The text so far, and the lines of the rest.
use Rattle.std.proofs.Common.{◌≡◌, ◌++◌, drop}
use Rattle.unr_engine.specs.Report.{spent_lines}
use Rattle.unr_engine.proofs.report.push_spent_lines.Given as goal

abbrev pub invariant-loop-claim : goal.invariant-loop-claim
invariant-loop-claim l = l.text.items ++ spent_lines l.effort (drop l.claim-index l.claims) l.rest ≡ l.initial.text.items ++ spent_lines l.effort l.claims l.used
