use Rattle.std.proofs.Common.{sym, ◌∙◌}
use Rattle.elab_flat.specs.Assigned.{assigns_registers}
use Rattle.elab_flat.proofs.Assigning.{all_passed, one_failed, assigns-Block}
use Rattle.elab_flat.proofs.targets.+assigns_registers.Goals as goal

pub returns-then-not-assigns_registers-2 : goal.returns-then-not-assigns_registers-2
returns-then-not-assigns_registers-2 t c =
    one_failed (assigns_registers c.args.registers.now) c.as_slice-s-items.result.now c.loop-s.s-index c.s-item.result c.s-item.is c.loop-s-test.true c.loop-s.invariant
    (sym c.assigns_registers-in-loop-s.ensures ∙ c.if-not-assigns_registers-2.true)
    ∙ assigns-Block c.args.registers.now c.args.stmt.now c.in-Block.at c.in-Block.statements c.as_slice-s-items.result.now c.in-Block.is c.as_slice-s-items.ensures

pub returns-after-loop-s : goal.returns-after-loop-s
returns-after-loop-s t c =
    all_passed (assigns_registers c.args.registers.now) c.as_slice-s-items.result.now c.loop-s.s-index c.loop-s-test.false c.loop-s.invariant
    ∙ assigns-Block c.args.registers.now c.args.stmt.now c.in-Block.at c.in-Block.statements c.as_slice-s-items.result.now c.in-Block.is c.as_slice-s-items.ensures
