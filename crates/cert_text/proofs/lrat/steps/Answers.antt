use Rattle.std.proofs.Common.{◌+◌}
use Rattle.cert_text.specs.Ladders.{step_of, proof_at}
use Rattle.line_text.proofs.Loop.{counts_on}
use Rattle.cert_text.proofs.lrat.steps.Goals as goal

pub loop-i-preserved : goal.loop-i-preserved
loop-i-preserved c =
    rw c.in_ok-push.ensures.ok (counts_on (λ i. proof_at (step_of (i + 1))) c.loop-i.steps c.args.count c.loop-i.i c.loop-i.lines c.in_ok-step.step c.step.new.lines _ c.loop-i-test.true c.in_ok-step.ensures c.loop-i.invariant)
