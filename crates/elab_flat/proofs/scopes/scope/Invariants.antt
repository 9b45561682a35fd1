use Rattle.std.proofs.Common.{◌≡◌, take}
use Rattle.elab_flat.specs.Nets.{scope_of}
use Rattle.elab_flat.proofs.scopes.scope.Given as goal

abbrev pub invariant-loop-net : goal.invariant-loop-net
invariant-loop-net l = l.scope ≡ scope_of l.clock (take l.net-index l.nets)
