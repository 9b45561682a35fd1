use Rattle.cnf_core.proofs.Sound.{plain_sound}
use Rattle.cnf_core.proofs.law_plain_clauses_are_unsolvable.Goals as goal

pub returns : goal.returns
returns c = plain_sound
