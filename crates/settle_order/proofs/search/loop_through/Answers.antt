use Rattle.std.proofs.Common.{List, length, subst, arith}
use Rattle.settle_order.specs.declared.search.Step.{Step}
use Rattle.settle_order.specs.Search.{IsBack}
use Rattle.settle_order.proofs.Searching.{searched_all}
use Rattle.settle_order.proofs.search.loop_through.Goals as goal

pub returns-then-branch : goal.returns-then-branch
returns-then-branch c =
    let back = subst (λ (s : List Step). IsBack c.args.c s c.loop-at.at c.in_ok-loop_back.field-0) c.deref.ensures.value c.in_ok-loop_back.ensures in
    back c.args.nodes.now (length c.args.table.now) c.in_ok-expand.ensures.formed (c.in_ok-expand.ensures.feeds c.if-branch.true)

pub returns : goal.returns
returns c =
    searched_all c.args.nodes.now c.args.c (length c.args.table.now) c.loop-at.at c.loop-at.seen.items c.loop-at.steps.items c.loop-at.invariant.searched (omega (arith, c.loop-at-test.false, c.len.ensures, c.loop-at.steps.ok.0))
