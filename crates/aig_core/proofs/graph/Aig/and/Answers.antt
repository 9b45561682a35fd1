use Rattle.aig_core.proofs.AndLaw.{and_gives_at}
use Rattle.aig_core.proofs.Values.{value_of-Extends}
use Rattle.aig_core.proofs.graph.Aig.and.Goals as goal

pub returns-clause-meaning : goal.returns-clause-meaning
returns-clause-meaning c =
    let e = c.in_ok-literal.ensures in
    and_gives_at c.args.self.now c.place.new.self c.args.x c.args.y c.in_ok-literal.literal e.was_well_formed c.requires.x_exists c.requires.y_exists e.graph e.literal

pub returns-clause-kept : goal.returns-clause-kept
returns-clause-kept c = (returns-clause-meaning c).extends

pub returns-clause-old_values : goal.returns-clause-old_values
returns-clause-old_values c leaves len x lx = value_of-Extends _ _ leaves x (returns-clause-meaning c).extends len lx
