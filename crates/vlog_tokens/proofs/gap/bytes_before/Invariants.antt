use Rattle.std.proofs.Common.{length, ◌-◌, ◌≡◌, ◌+◌, ◌≤◌, drop}
use Rattle.std.specs.List.{prefix_len}
use Rattle.vlog_tokens.specs.Gaps.{bytes_before}
use Rattle.vlog_tokens.proofs.gap.bytes_before.Given as goal

abbrev pub invariant-loop-end : goal.invariant-loop-end
invariant-loop-end l = (l.end + bytes_before l.first l.second (drop l.end l.text) ≡ bytes_before l.first l.second l.text) × (l.end ≤ length l.text)

abbrev pub decreases-loop-end : goal.decreases-loop-end
decreases-loop-end l = length l.text - l.end
