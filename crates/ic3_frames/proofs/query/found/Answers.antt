use Rattle.ic3_frames.proofs.Meaning.{found_is}
use Rattle.ic3_frames.proofs.query.found.Goals as goal

pub returns : goal.returns
returns c =
    let state = rw (c.inputs.ensures.value, c.states-states.ensures.value) at c.in_ok-state.ensures in
    let input = rw c.inputs.ensures.value at c.in_ok-input.ensures in
    found_is c.args.system.now c.args.values.now c.in_ok-state.state c.in_ok-input.input c.inputs.ensures.valid c.requires state input
