use Rattle.generalise.proofs.Lifted.{gathered_more}
use Rattle.generalise.proofs.lift.gather_bit.Goals as goal

pub returns : goal.returns
returns c = rw c.in_ok-push.ensures.ok (gathered_more _ _ _ _ _ c.requires.gathered)
