use Rattle.std.proofs.Common.{◌≤◌, drop}
use Rattle.elab_flat.proofs.Ports.{Nets}
use Rattle.elab_flat.proofs.nets.nets.Given as goal

abbrev pub invariant-loop-port : goal.invariant-loop-port
invariant-loop-port l = (l.first ≤ 65536) × Nets l.nets l.first (drop l.port-index l.ports) l.ports
