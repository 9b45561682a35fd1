use Rattle.std.proofs.Common.{sym, ◌∙◌}
use Rattle.elab_flat.specs.Assigned.{targets_registers}
use Rattle.elab_flat.proofs.Assigning.{all_passed, one_failed, target_concat}
use Rattle.elab_flat.proofs.targets.+targets_registers.Goals as goal

pub returns-then-not-targets_registers : goal.returns-then-not-targets_registers
returns-then-not-targets_registers t c =
    one_failed (targets_registers c.args.registers.now) c.as_slice-part-items.result.now c.loop-part.part-index c.part-item.result c.part-item.is c.loop-part-test.true c.loop-part.invariant
    (sym c.targets_registers.ensures ∙ c.if-not-targets_registers.true)
    ∙ target_concat c.args.registers.now c.args.target.now c.in-Concat.at c.in-Concat.parts c.as_slice-part-items.result.now c.in-Concat.is c.as_slice-part-items.ensures

pub returns-after-loop-part : goal.returns-after-loop-part
returns-after-loop-part t c =
    all_passed (targets_registers c.args.registers.now) c.as_slice-part-items.result.now c.loop-part.part-index c.loop-part-test.false c.loop-part.invariant
    ∙ target_concat c.args.registers.now c.args.target.now c.in-Concat.at c.in-Concat.parts c.as_slice-part-items.result.now c.in-Concat.is c.as_slice-part-items.ensures
