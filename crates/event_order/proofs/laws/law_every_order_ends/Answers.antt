use Rattle.event_order.proofs.Bounded.{every_order_ends}
use Rattle.event_order.proofs.laws.law_every_order_ends.Goals as goal

pub returns : goal.returns
returns c = every_order_ends
