use Rattle.generalise.proofs.Lifted.{forces, lifted_cube}
use Rattle.generalise.proofs.lift.shrink_state.Goals as goal

pub returns-clause-is_cube : goal.returns-clause-is_cube
returns-clause-is_cube c = lifted_cube _ _ _ _ _ c.requires.state c.in_ok-cube.ensures

pub returns-clause-forces : goal.returns-clause-forces
returns-clause-forces c =
    let supported = rw (c.deref.ensures.value, c.in_ok-values.ensures.values) at c.in_ok-marks.ensures.supported in
    let gathered = rw (c.deref-2.ensures.value, c.inputs-first.ensures.value) at c.in_ok-cube.ensures in
    forces c.args.system.now c.in_ok-marks.marks.items c.args.state.now c.args.input.now c.args.goal.now c.in_ok-cube.cube
    c.inputs-first.ensures.valid c.requires.state c.requires.input c.requires.exist c.requires.forced
    c.in_ok-marks.ensures.goal supported gathered
