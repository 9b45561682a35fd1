use Rattle.std.proofs.Common.{ap, sym, ◌∙◌}
use Rattle.design_core.specs.declared.flat.Stmt.{Stmt}
use Rattle.design_core.specs.Drive.{needs}
use Rattle.event_order.proofs.Scan.{needs_begin, needs_then, needs_else}
use Rattle.event_order.proofs.wake.+body_needs.Goals as goal

pub loop-s-init : goal.loop-s-init
loop-s-init t c = needs_begin _ _ _ _ c.in-Block.is c.as_slice-s-items.ensures

pub returns-then-body_needs : goal.returns-then-body_needs
returns-then-body_needs t c =
    sym (needs_then _ _ _ _ _ c.args.bit c.in-Branch.is (sym c.reads-in-Branch.ensures ∙ c.if-reads-2.false)
    (sym (ap (λ (s : Stmt). needs s c.args.bit) c.get.ensures) ∙ sym c.body_needs.ensures ∙ c.if-body_needs.true))

pub returns-else-body_needs : goal.returns-else-body_needs
returns-else-body_needs t c =
    c.body_needs-in-Branch.ensures ∙ ap (λ (s : Stmt). needs s c.args.bit) c.get-in-Branch.ensures
    ∙ sym (needs_else _ _ _ _ _ c.args.bit c.in-Branch.is (sym c.reads-in-Branch.ensures ∙ c.if-reads-2.false)
    (sym (ap (λ (s : Stmt). needs s c.args.bit) c.get.ensures) ∙ sym c.body_needs.ensures ∙ c.if-body_needs.false))
