use Rattle.std.proofs.Common.{◌≡◌, ◌+◌, ◌-◌}
use Rattle.line_text.specs.Reading.{times}
use Rattle.cert_text.specs.Ladders.{step_of, proof_at}
use Rattle.line_text.proofs.Loop.{with_front}
use Rattle.cert_text.proofs.lrat.steps.Given as goal

abbrev pub invariant-loop-i : goal.invariant-loop-i
invariant-loop-i l = with_front l.steps (times (l.count - l.i) l.i (λ i. proof_at (step_of (i + 1))) l.lines) ≡ times l.count 0 (λ i. proof_at (step_of (i + 1))) l.fn.lines
