use Rattle.elab_flat.specs.Nets.{names_of}
use Rattle.elab_flat.proofs.NetNames.{Declaring}
use Rattle.elab_flat.proofs.scopes.are_distinct.Given as goal

abbrev pub invariant-loop-net : goal.invariant-loop-net
invariant-loop-net l = Declaring (names_of l.nets) l.net-index l.names.keys
