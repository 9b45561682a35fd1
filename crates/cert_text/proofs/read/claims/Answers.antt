use Rattle.cert_text.specs.Certs.{claim_at}
use Rattle.line_text.proofs.Loop.{counts_on}
use Rattle.cert_text.proofs.read.claims.Goals as goal

pub loop-preserved : goal.loop-preserved
loop-preserved c =
    rw c.in_ok-push.ensures.ok (counts_on (λ _. claim_at) c.loop.claims c.args.count c.loop.counter c.loop.lines c.in_ok-claim.claim c.claim.new.lines _ c.loop-test.true c.in_ok-claim.ensures c.loop.invariant)
