use Rattle.every_order.proofs.Verdicts.{true_in_every_order}
use Rattle.every_order.proofs.law_true_in_every_order.Goals as goal

pub returns : goal.returns
returns c = true_in_every_order
