use Rattle.std.proofs.Common.{◌≡◌, ◌≤◌, length, map}
use Rattle.vlog_tokens.specs.Tokens.{longest_of}
use Rattle.vlog_tokens.proofs.length.longest_of.Given as goal

abbrev pub invariant-loop-table : goal.invariant-loop-table
invariant-loop-table l = (longest_of l.longest (map (λ entry. (entry.0.now, entry.1)) l.table) l.text ≡ longest_of 0 (map (λ entry. (entry.0.now, entry.1)) l.initial.table) l.text) × (l.longest ≤ length l.text)

abbrev pub decreases-loop-table : goal.decreases-loop-table
decreases-loop-table l = length l.table
