use Rattle.event_order.proofs.Naming.{every_number_names_one}
use Rattle.event_order.proofs.laws.law_every_number_names_one.Goals as goal

pub returns : goal.returns
returns c = every_number_names_one
