use Rattle.std.proofs.Common.{◌∙◌, ap, sym}
use Rattle.std.specs.Prelude.{option_map}
use Rattle.elab_flat.specs.Bodies.{stmt_of}
use Rattle.elab_flat.proofs.Turns.{turns_more, turns_done, block_is, branch_is}
use Rattle.elab_flat.proofs.bodies.+stmt.Goals as goal

pub stmt-loop-s-preserved : goal.stmt-loop-s-preserved
stmt-loop-s-preserved t c =
    turns_more c.args.scope.now c.as_slice-s-items.result.now c.args.numbers.now c.loop-s.s-index c.s-item.result c.loop-s.numbers c.loop-s.all c.s-item.is c.loop-s-test.true c.loop-s.invariant
    c.in-Some-4.made c.stmt-in-loop-s.new.numbers c.push.new.self (ap (option_map (λ s. (s, c.stmt-in-loop-s.new.numbers))) (sym c.in-Some-4.is) ∙ c.in_ok-made-in-Block.ensures) c.in_ok-push-in-Block.ensures.ok

pub stmt-returns-in_ok-branch-in-If : goal.stmt-returns-in_ok-branch-in-If
stmt-returns-in_ok-branch-in-If t c =
    branch_is c.args.scope.now c.args.source.now c.in-If.at c.in-If.condition c.in-If.yes c.in-If.no c.args.numbers.now c.stmt.new.numbers c.other_arm.new.numbers c.in_ok-site-in-If.site c.take-in-If.new.next c.in-Some.cond
    c.in-Some-2.first c.in-Some-3.second c.in_ok-branch-in-If.field-0 c.in-If.is c.in_ok-site-in-If.ensures.number c.in_ok-site-in-If.ensures.taken (sym c.in-Some.is ∙ c.in_ok-cond-in-If.ensures.value)
    (ap (option_map (λ s. (s, c.stmt.new.numbers))) (sym c.in-Some-2.is) ∙ c.in_ok-first-in-If.ensures
    ∙ ap (λ s. stmt_of c.args.scope.now s (record { site = c.args.numbers.now.site; arm = c.take-in-If.new.next })) c.get.ensures)
    (ap (option_map (λ s. (s, c.other_arm.new.numbers))) (sym c.in-Some-3.is) ∙ c.in_ok-second-in-If.ensures) c.in_ok-branch-in-If.ensures

pub stmt-returns-after-loop-s : goal.stmt-returns-after-loop-s
stmt-returns-after-loop-s t c =
    let all = c.as_slice-s-items.result.now in
    block_is c.args.scope.now c.args.source.now c.in-Block.at c.in-Block.statements all c.args.numbers.now c.loop-s.numbers c.loop-s.all c.in-Block.is c.as_slice-s-items.ensures
    (turns_done c.args.scope.now all c.args.numbers.now c.loop-s.s-index c.loop-s.numbers c.loop-s.all c.loop-s-test.false c.loop-s.invariant)
