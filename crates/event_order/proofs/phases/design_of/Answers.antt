use Rattle.std.proofs.Common.{subst}
use Rattle.event_order.specs.Sims.{AllCanEnd}
use Rattle.event_order.proofs.Simulating.{all_can_end}
use Rattle.event_order.proofs.phases.design_of.Goals as goal

pub returns-clause-ends : goal.returns-clause-ends
returns-clause-ends c = subst AllCanEnd c.design.ensures.design (all_can_end _ _ c.design.ensures.legal)
