use Rattle.std.proofs.Common.{◌+◌, ◌∙◌, ap, take, drop, subst, sym}
use Rattle.std.proofs.lemmas.List.{take_all}
use Rattle.design_core.specs.Drive.{drives}
use Rattle.elab_flat.specs.Owners.{Owns, Clashes}
use Rattle.elab_flat.proofs.Driving.{drives-Branch, drives-Block, some_drives, bodies_more, bodies_rest}
use Rattle.elab_flat.proofs.Owning.{clash_first, one_more_owned, one_more_clash, clash_later}
use Rattle.elab_flat.proofs.drivers.+own_body.Goals as goal

pub returns-then-not-own_body-clause-clashes : goal.returns-then-not-own_body-clause-clashes
returns-then-not-own_body-clause-clashes t c e =
    let x = c.in-Branch.yes in
    let y = c.in-Branch.no in
    let first = subst (λ s. Clashes (drives s) c.args.process c.args.owners.now) c.get.ensures (c.own_body.ensures.clashes c.if-not-own_body.true) in
    subst (λ f. Clashes f c.args.process c.args.owners.now) (sym (ap drives c.in-Branch.is ∙ drives-Branch c.in-Branch.site c.in-Branch.cond x y))
    (clash_first c.args.process (drives x) (drives y) c.args.owners.now first)

pub returns-else-not-own_body-clause-owns : goal.returns-else-not-own_body-clause-owns
returns-else-not-own_body-clause-owns t c e =
    let x = c.in-Branch.yes in
    let y = c.in-Branch.no in
    let first = subst (λ s. Owns (drives s) c.args.process c.args.owners.now c.own_body.new.owners) c.get.ensures (c.own_body.ensures.owns c.if-not-own_body.false) in
    let second = subst (λ s. Owns (drives s) c.args.process c.own_body.new.owners c.own_body-in-Branch.new.owners) c.get-in-Branch.ensures (c.own_body-in-Branch.ensures.owns e) in
    one_more_owned c.args.process c.args.owners.now c.own_body.new.owners (drives x, first) (drives y) (drives c.args.body.now) c.own_body-in-Branch.new.owners
    (ap drives c.in-Branch.is ∙ drives-Branch c.in-Branch.site c.in-Branch.cond x y) second

pub returns-else-not-own_body-clause-clashes : goal.returns-else-not-own_body-clause-clashes
returns-else-not-own_body-clause-clashes t c e =
    let x = c.in-Branch.yes in
    let y = c.in-Branch.no in
    let first = subst (λ s. Owns (drives s) c.args.process c.args.owners.now c.own_body.new.owners) c.get.ensures (c.own_body.ensures.owns c.if-not-own_body.false) in
    let second = subst (λ s. Clashes (drives s) c.args.process c.own_body.new.owners) c.get-in-Branch.ensures (c.own_body-in-Branch.ensures.clashes e) in
    subst (λ f. Clashes f c.args.process c.args.owners.now) (sym (ap drives c.in-Branch.is ∙ drives-Branch c.in-Branch.site c.in-Branch.cond x y))
    (clash_later c.args.process (drives x) (drives y) c.args.owners.now c.own_body.new.owners first second)

pub returns-then-not-own_body-2-clause-clashes : goal.returns-then-not-own_body-2-clause-clashes
returns-then-not-own_body-2-clause-clashes t c e =
    let all = c.as_slice-s-items.result.now in
    let k = c.loop-s.s-index in
    one_more_clash c.args.process c.args.owners.now c.loop-s.owners (some_drives (take k all), c.loop-s.invariant) (drives c.s-item.result) (some_drives (take (k + 1) all)) (some_drives (drop (k + 1) all)) (drives c.args.body.now)
    (bodies_more all k c.s-item.result c.s-item.is c.loop-s-test.true)
    (ap drives c.in-Block.is ∙ drives-Block c.in-Block.all ∙ ap some_drives (sym c.as_slice-s-items.ensures) ∙ bodies_rest all (k + 1)) (c.own_body-in-loop-s.ensures.clashes c.if-not-own_body-2.true)

pub loop-s-preserved : goal.loop-s-preserved
loop-s-preserved t c =
    let all = c.as_slice-s-items.result.now in
    let k = c.loop-s.s-index in
    one_more_owned c.args.process c.args.owners.now c.loop-s.owners (some_drives (take k all), c.loop-s.invariant) (drives c.s-item.result) (some_drives (take (k + 1) all)) c.own_body-in-loop-s.new.owners
    (bodies_more all k c.s-item.result c.s-item.is c.loop-s-test.true) (c.own_body-in-loop-s.ensures.owns c.if-not-own_body-2.false)

pub returns-after-loop-s-clause-owns : goal.returns-after-loop-s-clause-owns
returns-after-loop-s-clause-owns t c e =
    let all = c.as_slice-s-items.result.now in
    subst (λ f. Owns f c.args.process c.args.owners.now c.loop-s.owners)
    (ap some_drives (take_all c.loop-s.s-index all c.loop-s-test.false ∙ c.as_slice-s-items.ensures) ∙ sym (ap drives c.in-Block.is ∙ drives-Block c.in-Block.all)) c.loop-s.invariant
