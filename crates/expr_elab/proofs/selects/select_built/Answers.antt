use Rattle.expr_elab.proofs.Choosing.{chosen_is}
use Rattle.expr_elab.proofs.selects.select_built.Goals as goal

pub selected-requires-clause-some : goal.selected-requires-clause-some
selected-requires-clause-some c = (chosen_is c.in-Some.range c.args.picked _ c.in-Some-choice_of.choice c.requires c.choice_of.ensures c.in-Some-choice_of.is).0

pub selected-requires-clause-closed : goal.selected-requires-clause-closed
selected-requires-clause-closed c = (chosen_is c.in-Some.range c.args.picked _ c.in-Some-choice_of.choice c.requires c.choice_of.ensures c.in-Some-choice_of.is).1
