use Rattle.bit_system.specs.ProofLines.{seen}
use Rattle.cert_text.proofs.ProofLoop.{lines_on}
use Rattle.cert_text.proofs.lrat.proof_lines.Goals as goal

pub loop-i-preserved : goal.loop-i-preserved
loop-i-preserved c =
    rw (c.in_ok-push.ensures.ok, c.added-left.ensures) (lines_on c.loop-i.proof c.args.count c.loop-i.i c.loop-i.left c.loop-i.lines (seen c.in_ok-line.line) c.proof_line.new.lines _ c.loop-i-test.true c.in_ok-line.ensures.value c.loop-i.invariant)
