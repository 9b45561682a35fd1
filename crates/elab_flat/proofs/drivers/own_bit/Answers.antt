use Rattle.elab_flat.proofs.Owning.{past_clash}
use Rattle.elab_flat.proofs.drivers.own_bit.Goals as goal

pub returns-then-place-owners-clause-clashes : goal.returns-then-place-owners-clause-clashes
returns-then-place-owners-clause-clashes c e = past_clash c.args.bit c.args.process c.args.owners.now c.if-place-owners.true
