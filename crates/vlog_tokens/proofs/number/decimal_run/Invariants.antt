use Rattle.std.proofs.Common.{length, ◌-◌, ◌≡◌, ◌+◌, ◌≤◌, drop}
use Rattle.std.specs.List.{prefix_len}
use Rattle.vlog_tokens.specs.Bytes.{is_decimal}
use Rattle.vlog_tokens.specs.Numbers.{or_underscore}
use Rattle.vlog_tokens.proofs.number.decimal_run.Given as goal

abbrev pub invariant-loop-end : goal.invariant-loop-end
invariant-loop-end l = (l.end + prefix_len (or_underscore is_decimal) (drop l.end l.text) ≡ prefix_len (or_underscore is_decimal) l.text) × (l.end ≤ length l.text)

abbrev pub decreases-loop-end : goal.decreases-loop-end
decreases-loop-end l = length l.text - l.end
