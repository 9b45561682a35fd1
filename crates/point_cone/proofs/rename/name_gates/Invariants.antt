use Rattle.std.proofs.Common.{◌≡◌, ◌+◌, drop}
use Rattle.std.specs.Prelude.{All}
use Rattle.aig_core.specs.Graph.{IsLiteral}
use Rattle.point_cone.specs.Naming.{name_gates}
use Rattle.point_cone.proofs.rename.name_gates.Given as goal

abbrev pub invariant-loop-i : goal.invariant-loop-i
invariant-loop-i l = record {
  rest : name_gates l.marks (l.first + l.i) (drop l.i l.gates) (record { graph = l.aig; names = l.names }) ≡ name_gates l.marks l.first l.gates (record { graph = l.fn.aig; names = l.fn.names });
  exist : All (IsLiteral l.aig) l.names;
}
