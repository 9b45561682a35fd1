use Rattle.expr_elab.proofs.Choosing.{chosen_is}
use Rattle.expr_elab.proofs.targets.select_parts.Goals as goal

pub parts_selected-requires-clause-some : goal.parts_selected-requires-clause-some
parts_selected-requires-clause-some c = (chosen_is c.in-Some.range c.args.picked _ c.in-Some-choice_of.choice c.requires c.choice_of.ensures c.in-Some-choice_of.is).0

pub parts_selected-requires-clause-closed : goal.parts_selected-requires-clause-closed
parts_selected-requires-clause-closed c = (chosen_is c.in-Some.range c.args.picked _ c.in-Some-choice_of.choice c.requires c.choice_of.ensures c.in-Some-choice_of.is).1
