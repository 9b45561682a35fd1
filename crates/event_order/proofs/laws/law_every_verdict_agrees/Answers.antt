use Rattle.event_order.proofs.Main.{every_verdict_agrees}
use Rattle.event_order.proofs.laws.law_every_verdict_agrees.Goals as goal

pub returns : goal.returns
returns c = every_verdict_agrees
