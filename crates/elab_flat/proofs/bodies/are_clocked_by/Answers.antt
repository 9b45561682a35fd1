use Rattle.std.proofs.Common.{take, refl, sym, subst}
use Rattle.std.proofs.lemmas.List.{take_all}
use Rattle.std.proofs.lemmas.List.Elements.{All-more, All-same}
use Rattle.elab_flat.specs.Bodies.{IsClockedBy}
use Rattle.elab_flat.proofs.bodies.are_clocked_by.Goals as goal

pub loop-item-preserved : goal.loop-item-preserved
loop-item-preserved c =
    let P = IsClockedBy c.args.clock.now in
    All-more P c.args.items.now c.loop-item.item-index c.item-item.result c.loop-item-test.true c.loop-item.invariant (subst P c.item-item.is (c.is_clocked_by.ensures.0 c.if-not-is_clocked_by.false))

pub returns : goal.returns
returns c =
    let P = IsClockedBy c.args.clock.now in
    (λ h. All-same P c.args.items.now (take c.loop-item.item-index c.args.items.now) (sym (take_all c.loop-item.item-index c.args.items.now c.loop-item-test.false)) c.loop-item.invariant, λ h. refl)
