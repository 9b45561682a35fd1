use Rattle.clause_names.proofs.Names.{inserted}
use Rattle.clause_names.proofs.numbering.number_of.Goals as goal

pub returns-in-Ok-clause-grows : goal.returns-in-Ok-clause-grows
returns-in-Ok-clause-grows c = inserted c.args.names.now.keys c.insert_full.new.self.keys c.args.variable c.in-Ok.ensures.keys c.in-Ok.ensures.unique c.requires.high
