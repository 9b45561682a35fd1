use Rattle.cert_text.proofs.Writing.{lemma_text}
use Rattle.cert_text.proofs.put_ladder.put_lemma.Goals as goal

pub returns : goal.returns
returns c = rw (lemma_text c.args.lemma.now) c.put_lemma_words.ensures
