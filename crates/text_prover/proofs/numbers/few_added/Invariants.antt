use Rattle.std.proofs.Common.{◌<◌, ◌≤◌, ◌^◌, take, sum_by}
use Rattle.bit_system.specs.ProofLines.{seen}
use Rattle.cert_text.specs.Spelling.{added}
use Rattle.text_prover.proofs.numbers.few_added.Given as goal

abbrev pub invariant-loop-line : goal.invariant-loop-line
invariant-loop-line l = (l.total < 2 ^ 63 → sum_by (λ line. added (seen line)) (take l.line-index l.lines) ≤ l.total) × (l.total ≤ sum_by (λ line. added (seen line)) (take l.line-index l.lines))
