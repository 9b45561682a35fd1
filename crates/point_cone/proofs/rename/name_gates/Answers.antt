use Rattle.std.proofs.Common.{length, arith}
use Rattle.point_cone.proofs.Naming.{gates_more, sides_within}
use Rattle.point_cone.proofs.rename.name_gates.Goals as goal

pub name_gate-requires-clause-left : goal.name_gate-requires-clause-left
name_gate-requires-clause-left c =
    (sides_within c.args.first c.loop-i.i (length c.loop-i.names) c.args.gates.now (record { left = 0; right = 0 }) c.requires.reads c.loop-i-test.true
    (omega (arith, c.requires.names, c.loop-i.auto.names))).0

pub name_gate-requires-clause-right : goal.name_gate-requires-clause-right
name_gate-requires-clause-right c =
    (sides_within c.args.first c.loop-i.i (length c.loop-i.names) c.args.gates.now (record { left = 0; right = 0 }) c.requires.reads c.loop-i-test.true
    (omega (arith, c.requires.names, c.loop-i.auto.names))).1

pub loop-i-preserved : goal.loop-i-preserved
loop-i-preserved c = record {
  rest = gates_more c.args.marks.now c.args.first c.loop-i.i c.args.gates.now (record { left = 0; right = 0 }) (record { graph = c.loop-i.aig; names = c.loop-i.names })
      (record { graph = c.name_gate.new.aig; names = c.name_gate.new.names }) _ c.loop-i-test.true c.loop-i.invariant.rest c.in_ok-name_gate.ensures.renamed;
  exist = c.in_ok-name_gate.ensures.exist;
}
