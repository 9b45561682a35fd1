use Rattle.point_cone.proofs.Made.{all_literals, small_is}
use Rattle.point_cone.proofs.build.smaller.Goals as goal

pub name_gates-requires-clause-exist : goal.name_gates-requires-clause-exist
name_gates-requires-clause-exist c =
    let first = rw c.inputs.ensures.value at c.in_ok-inputs.ensures in
    let second = rw (c.inputs-2.ensures.value, c.states.ensures.value, c.len.ensures) at c.in_ok-states.ensures in
    let made = rw (c.len-2.ensures, c.len-3.ensures) at c.in_ok-aig.ensures.made in
    all_literals c.args.system.now c.inputs.ensures.valid c.args.marks.now c.in_ok-inputs.inputs c.in_ok-states.states c.args.names.now c.name_leaves.new.names c.name_leaves-2.new.names
    c.requires.names first second c.in_ok-aig.aig made

pub returns : goal.returns
returns c =
    let first = rw c.inputs.ensures.value at c.in_ok-inputs.ensures in
    let second = rw (c.inputs-2.ensures.value, c.states.ensures.value, c.len.ensures) at c.in_ok-states.ensures in
    let made = rw (c.len-2.ensures, c.len-3.ensures) at c.in_ok-aig.ensures.made in
    let renamed = rw (c.first_gate.ensures.value, c.gates.ensures.value, made) at c.in_ok-name_gates.ensures.renamed in
    small_is c.args.system.now c.inputs.ensures.valid c.args.marks.now c.in_ok-inputs.inputs c.in_ok-states.states c.args.names.now c.name_leaves.new.names c.name_leaves-2.new.names
    c.requires.names first second c.name_gates.new.aig c.name_gates.new.names c.requires.size c.requires.done renamed
