use Rattle.std.proofs.Common.{◌≡◌, ◌<◌, ◌≤◌, ap, sym, subst, arith, MatchOption}
use Rattle.elab_flat.specs.Bodies.{assignments_in, sum_over}
use Rattle.elab_flat.proofs.Rooms.{sums_more}
use Rattle.elab_flat.proofs.bodies.statement_count.Goals as goal

pub returns-in_err-left : goal.returns-in_err-left
returns-in_err-left c =
    let n = sum_over assignments_in c.args.items.now in
    let more = sums_more c.args.items.now c.loop-item.item-index c.item-item.result c.item-item.is c.loop-item-test.true in
    subst (λ o. MatchOption o (65536 < n) (λ k. (k ≡ n) × (k ≤ 65536))) (sym c.from_residual.ensures)
    (omega (arith, c.in_err-left.ensures, c.loop-item.invariant.0, c.loop-item.invariant.1, ap assignments_in c.body.ensures, more))

pub loop-item-preserved : goal.loop-item-preserved
loop-item-preserved c =
    let more = sums_more c.args.items.now c.loop-item.item-index c.item-item.result c.item-item.is c.loop-item-test.true in
    (omega (arith, c.in_ok-left.ensures, c.loop-item.invariant.0), omega (arith, c.in_ok-left.ensures, c.loop-item.invariant.1, ap assignments_in c.body.ensures, more))
