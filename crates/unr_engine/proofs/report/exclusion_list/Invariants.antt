-- The list so far, and the rest of it.
use Rattle.std.proofs.Common.{◌≡◌, ◌++◌, drop}
use Rattle.unr_engine.specs.Report.{exclusions}
use Rattle.unr_engine.proofs.report.exclusion_list.Given as goal

abbrev pub invariant-loop-claim : goal.invariant-loop-claim
invariant-loop-claim l = l.text.items ++ exclusions (drop l.claim-index l.claims) ≡ exclusions l.claims
