use Rattle.std.proofs.Common.{◌≢◌, take}
use Rattle.std.specs.Prelude.{All}
use Rattle.elab_flat.specs.declared.drivers.Owner.TheVariants as owner
use Rattle.elab_flat.specs.Owners.{owner_at}
use Rattle.elab_flat.proofs.drivers.are_owned.Given as goal

abbrev pub invariant-loop-bit : goal.invariant-loop-bit
invariant-loop-bit l = All (λ b. owner_at l.owners b ≢ owner.Nobody) (take l.bit-index l.registers)
