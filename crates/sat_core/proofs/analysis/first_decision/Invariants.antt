use Rattle.std.proofs.Common.{◌≡◌, ◌<◌, ◌≤◌, ℕ, None}
use Rattle.sat_core.specs.Trailed.{reason_at}
use Rattle.sat_core.proofs.analysis.first_decision.Given as goal

abbrev pub invariant-loop-at : goal.invariant-loop-at
invariant-loop-at l = (d : ℕ) → l.floor ≤ d → d < l.at → reason_at l.trail d ≡ None → ⊥
