use Rattle.std.proofs.Common.{ap, sym, ◌∙◌}
use Rattle.design_core.specs.declared.flat.Stmt.{Stmt}
use Rattle.design_core.specs.Drive.{always}
use Rattle.event_order.proofs.Scan.{always_begin, always_then, always_else}
use Rattle.event_order.proofs.wake.+body_always.Goals as goal

pub loop-s-init : goal.loop-s-init
loop-s-init t c = always_begin _ _ _ _ c.in-Block.is c.as_slice-s-items.ensures

pub returns-then-body_always : goal.returns-then-body_always
returns-then-body_always t c =
    c.body_always-then-body_always.ensures ∙ ap (λ (s : Stmt). always s c.args.bit) c.get-then-body_always.ensures
    ∙ sym (always_then _ _ _ _ _ c.args.bit c.in-Branch.is (sym (ap (λ (s : Stmt). always s c.args.bit) c.get.ensures) ∙ sym c.body_always.ensures ∙ c.if-body_always.true))

pub returns-else-body_always : goal.returns-else-body_always
returns-else-body_always t c =
    c.if-body_always.false
    ∙ sym (always_else _ _ _ _ _ c.args.bit c.in-Branch.is (sym (ap (λ (s : Stmt). always s c.args.bit) c.get.ensures) ∙ sym c.body_always.ensures ∙ c.if-body_always.false))
