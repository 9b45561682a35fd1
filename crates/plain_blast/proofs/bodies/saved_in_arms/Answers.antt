use Rattle.plain_blast.proofs.Collecting.{bits_below, is_saved}
use Rattle.plain_blast.proofs.bodies.saved_in_arms.Goals as goal

pub save-requires : goal.save-requires
save-requires c = bits_below _ _ _ c.in_ok-bits.ensures.same c.requires

pub returns : goal.returns
returns c = is_saved _ _ _ _ _ c.in_ok-bits.ensures.rises c.in_ok-bits.ensures.same c.requires c.in_ok-saved.ensures.bits c.in_ok-saved.ensures.literals
