-- The lines so far, and the rest of them.
use Rattle.std.proofs.Common.{◌≡◌, ◌++◌, drop}
use Rattle.unr_engine.specs.Report.{report_lines}
use Rattle.unr_engine.proofs.report.report_text.Given as goal

abbrev pub invariant-loop-claim : goal.invariant-loop-claim
invariant-loop-claim l = l.text.items ++ report_lines (drop l.claim-index l.claims) ≡ report_lines l.claims
