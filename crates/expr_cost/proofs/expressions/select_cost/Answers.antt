use Rattle.expr_cost.proofs.CostLaws.{select_is}
use Rattle.expr_cost.proofs.expressions.select_cost.Goals as goal

pub returns : goal.returns
returns c = select_is c.args.index.cost c.args.places c.args.bits c.args.index.width c.args.gates _ _ _ _ c.times-pairs.ensures c.plus.ensures c.times.ensures c.plus-2.ensures
