use Rattle.elab_flat.specs.Owners.{AreOwners}
use Rattle.elab_flat.proofs.drivers.own_all.Given as goal

abbrev pub invariant-loop-k : goal.invariant-loop-k
invariant-loop-k l = AreOwners l.processes l.registers l.k l.owners
