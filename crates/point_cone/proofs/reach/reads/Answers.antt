use Rattle.std.proofs.Common.{◌-◌, ℕ, ◌<◌, ◌≤◌, ◌≡◌, List, get_or, arith}
use Rattle.aig_core.specs.declared.gate.Gate.{Gate}
use Rattle.aig_core.specs.Graph.{first_gate, node_count, IsLiteral}
use Rattle.bit_system.specs.Machine.{Machine, IsMachine}
use Rattle.bit_system.proofs.Earlier.{reads_at}
use Rattle.point_cone.proofs.reach.reads.Goals as goal

sides : (m : Machine) (node first : ℕ) (gates : List Gate) → IsMachine m → gates ≡ m.graph.gates → first ≡ first_gate m.graph → first ≤ node → node < node_count m.graph →
    (IsLiteral m.graph (get_or gates (node - first) (record { left = 0; right = 0 })).left) × (IsLiteral m.graph (get_or gates (node - first) (record { left = 0; right = 0 })).right)
sides m node first gates v eg ef from low =
    rw (eg, ef)
    (let from' : first_gate m.graph ≤ node = omega (arith, ef) in
    let two = reads_at (first_gate m.graph) m.graph.gates (node - first_gate m.graph) (record { left = 0; right = 0 }) v.well_formed (omega arith) in
    (omega (arith, two.0), omega (arith, two.1)))

pub returns-clause-left : goal.returns-clause-left
returns-clause-left c =
    (sides c.args.system.now c.args.node c.first_gate-first_gate.result c.gates.result.now c.gates.ensures.valid c.gates.ensures.value c.first_gate-first_gate.ensures.value
    c.if-node-first_gate.false c.requires).0

pub returns-clause-right : goal.returns-clause-right
returns-clause-right c =
    (sides c.args.system.now c.args.node c.first_gate-first_gate.result c.gates.result.now c.gates.ensures.valid c.gates.ensures.value c.first_gate-first_gate.ensures.value
    c.if-node-first_gate.false c.requires).1
