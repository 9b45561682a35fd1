use Rattle.proof_lines.proofs.Spaces.{addition-text}
use Rattle.proof_lines.proofs.write.put_addition.Goals as goal

pub returns : goal.returns
returns c = rw (addition-text c.args.id c.args.lits.now c.args.hints.now) c.put_addition_words.ensures
