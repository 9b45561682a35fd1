use Rattle.std.proofs.Common.{◌∙◌, ap, ◌+◌, ◌++◌, [], ◌∷◌}
use Rattle.std.proofs.lemmas.List.{append_assoc}
use Rattle.elab_flat.specs.Bodies.{arms_from}
use Rattle.elab_flat.proofs.SiteLists.{then_arm, else_arm, arms_more}
use Rattle.elab_flat.proofs.sites.add_arms.Goals as goal

pub loop-k-preserved : goal.loop-k-preserved
loop-k-preserved c =
    let path = c.args.path.now in
    let one = c.in_ok-push.ensures.ok ∙ ap (λ s. c.loop-k.sites ++ s ∷ []) c.in_ok-arm_site.ensures in
    let two = c.in_ok-push-2.ensures.ok ∙ ap (λ s. c.push.new.self ++ s ∷ []) c.in_ok-arm_site-2.ensures ∙ ap (λ ss. ss ++ else_arm path (c.loop-k.k + 1) ∷ []) one in
    arms_more path c.loop-k.k c.args.count c.loop-k.sites c.push-in-loop-k.new.self (c.args.sites.now ++ arms_from path 1 c.args.count) c.loop-k-test.true
    (two ∙ append_assoc c.loop-k.sites (then_arm path (c.loop-k.k + 1) ∷ []) (else_arm path (c.loop-k.k + 1) ∷ [])) c.loop-k.invariant
