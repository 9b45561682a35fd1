use Rattle.proof_lines.proofs.Spaces.{deletion-text}
use Rattle.proof_lines.proofs.write.put_deletion.Goals as goal

pub returns : goal.returns
returns c = rw (deletion-text c.args.id c.args.ids.now) c.put_deletion_words.ensures
