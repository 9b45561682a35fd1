use Rattle.std.proofs.Common.{◌≡◌, ◌<◌, ◌+◌, ◌∙◌, ap, sym, subst, arith, MatchOption}
use Rattle.vlog_syntax.specs.declared.stmt.Stmt.{If}
use Rattle.elab_flat.specs.Bodies.{assignments_in}
use Rattle.elab_flat.proofs.Rooms.{if_first_count, if_both_count, block_count, room_for_both, counts_more, counts_none}
use Rattle.elab_flat.proofs.bodies.+room_after.Goals as goal

pub returns-in_err-left-in-If : goal.returns-in_err-left-in-If
returns-in_err-left-in-If t c =
    let n = assignments_in c.args.stmt.now in
    let less = if_first_count c.args.stmt.now c.in-If.at c.in-If.condition c.in-If.yes c.in-If.no c.in-If.is in
    subst (λ o. MatchOption o (c.args.room < n) (λ left. left + n ≡ c.args.room)) (sym c.from_residual.ensures) (omega (arith, c.in_err-left-in-If.ensures, ap assignments_in c.get.ensures, less))

pub returns-in_err-next-in-Block : goal.returns-in_err-next-in-Block
returns-in_err-next-in-Block t c =
    let n = assignments_in c.args.stmt.now in
    let more = counts_more c.as_slice-s-items.result.now c.loop-s.s-index c.s-item.result c.s-item.is c.loop-s-test.true in
    let whole = block_count c.args.stmt.now c.in-Block.at c.in-Block.statements c.as_slice-s-items.result.now c.in-Block.is c.as_slice-s-items.ensures in
    subst (λ o. MatchOption o (c.args.room < n) (λ left. left + n ≡ c.args.room)) (sym c.from_residual-in_err-next-in-Block.ensures)
    (omega (arith, c.in_err-next-in-Block.ensures, c.loop-s.invariant, more, whole))

pub loop-s-preserved : goal.loop-s-preserved
loop-s-preserved t c =
    let more = counts_more c.as_slice-s-items.result.now c.loop-s.s-index c.s-item.result c.s-item.is c.loop-s-test.true in
    omega (arith, c.loop-s.invariant, c.in_ok-next-in-Block.ensures, more)

pub returns-in-Some : goal.returns-in-Some
returns-in-Some t c =
    let is = c.in-If.is ∙ ap (λ o. If c.in-If.at c.in-If.condition c.in-If.yes o) c.in-Some.is in
    let both = if_both_count c.args.stmt.now c.in-If.at c.in-If.condition c.in-If.yes c.in-Some.no is in
    room_for_both c.room_after-in-Some.result c.args.room c.in_ok-left-in-If.left (assignments_in c.get.result.now) (assignments_in c.get-in-Some.result.now) (assignments_in c.args.stmt.now) c.in_ok-left-in-If.ensures
    (both ∙ (λ j. assignments_in (sym c.get.ensures j) + assignments_in (sym c.get-in-Some.ensures j))) c.room_after-in-Some.ensures

pub returns-after-loop-s : goal.returns-after-loop-s
returns-after-loop-s t c =
    let whole = block_count c.args.stmt.now c.in-Block.at c.in-Block.statements c.as_slice-s-items.result.now c.in-Block.is c.as_slice-s-items.ensures in
    let none = counts_none c.as_slice-s-items.result.now c.loop-s.s-index c.loop-s-test.false in
    omega (arith, c.loop-s.invariant, whole, none)
