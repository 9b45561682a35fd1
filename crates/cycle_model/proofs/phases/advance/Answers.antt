use Rattle.std.proofs.Common.{refl, ◌∙◌}
use Rattle.design_core.proofs.OneSettling.{settles_at}
use Rattle.cycle_model.proofs.Sites.{is_marked}
use Rattle.cycle_model.proofs.Whole.{next_held}
use Rattle.cycle_model.proofs.phases.advance.Goals as goal

pub returns-clause-settled : goal.returns-clause-settled
returns-clause-settled c =
    rw (c.clock-2.ensures.values, c.settle.ensures.values, c.put_inputs-2.ensures, c.copy_from_slice-2.ensures.after, c.clock.ensures.next, c.put_inputs.ensures, c.copy_from_slice.ensures.after, c.as_slice.ensures, c.as_slice-2.ensures)
    (settles_at c.args.design.now c.args.order.now c.requires.legal c.args.next.now c.args.inputs.now c.requires.next c.requires.inputs)

pub returns-clause-next : goal.returns-clause-next
returns-clause-next c =
    rw (c.clock-2.ensures.values)
    (next_held c.args.design.now c.settle.new.values c.clock-2.new.next (c.settle.auto.values ∙ c.put_inputs-2.auto.values ∙ c.copy_from_slice-2.auto.self ∙ c.clock.auto.values ∙ c.put_inputs.auto.values ∙ c.copy_from_slice.auto.self ∙ c.requires.values) c.requires.legal.registers_within (rw (c.clock-2.ensures.next, c.copy_from_slice-3.ensures.after) refl))

pub returns-clause-marks : goal.returns-clause-marks
returns-clause-marks c =
    rw (c.clock-2.ensures.marks, c.clock-2.ensures.values, c.settle.ensures.marks, c.settle.ensures.values, c.put_inputs-2.ensures, c.copy_from_slice-2.ensures.after, c.clock.ensures.next, c.put_inputs.ensures, c.copy_from_slice.ensures.after, c.as_slice.ensures, c.as_slice-2.ensures)
    (is_marked c.args.design.now c.args.order.now c.requires.legal c.args.next.now c.args.inputs.now c.clear.new.marks (c.clear.auto.marks ∙ c.clock.auto.marks ∙ c.requires.marks) c.clear.ensures)
