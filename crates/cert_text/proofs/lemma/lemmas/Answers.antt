use Rattle.line_text.specs.Reading.{line_by}
use Rattle.cert_text.specs.Ladders.{lemma_of}
use Rattle.line_text.proofs.Loop.{counts_on}
use Rattle.cert_text.proofs.lemma.lemmas.Goals as goal

pub loop-preserved : goal.loop-preserved
loop-preserved c =
    rw c.in_ok-push.ensures.ok (counts_on (λ _. line_by (lemma_of c.args.forever)) c.loop.lemmas c.args.count c.loop.counter c.loop.lines c.in_ok-lemma.lemma c.lemma_line.new.lines _ c.loop-test.true c.in_ok-lemma.ensures c.loop.invariant)
