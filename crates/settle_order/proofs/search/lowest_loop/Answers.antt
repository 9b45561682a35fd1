use Rattle.std.proofs.Common.{arith}
use Rattle.std.proofs.lemmas.Option.{MatchOption-at_none, MatchOption-at_some}
use Rattle.settle_order.specs.Loops.{IsLooped}
use Rattle.settle_order.specs.Search.{IsLoopOf}
use Rattle.settle_order.proofs.Chains.{lowest, none_more}
use Rattle.settle_order.proofs.search.lowest_loop.Goals as goal

pub returns-in-Some : goal.returns-in-Some
returns-in-Some c =
    let nodes = c.args.nodes.now in
    lowest nodes c.loop-c.c c.in-Some.bits (MatchOption-at_some (IsLooped nodes c.loop-c.c → ⊥) (IsLoopOf nodes c.loop-c.c) c.in-Some.bits c.in-Some.is c.in_ok-bits.ensures) c.loop-c.invariant

pub loop-c-preserved : goal.loop-c-preserved
loop-c-preserved c =
    let nodes = c.args.nodes.now in
    none_more nodes c.loop-c.c c.loop-c.invariant (MatchOption-at_none (IsLooped nodes c.loop-c.c → ⊥) (IsLoopOf nodes c.loop-c.c) c.in_default.is c.in_ok-bits.ensures)

pub returns : goal.returns
returns c =
    let nodes = c.args.nodes.now in
    lowest nodes c.args.last c.in-Some-2.bits (MatchOption-at_some (IsLooped nodes c.args.last → ⊥) (IsLoopOf nodes c.args.last) c.in-Some-2.bits c.in-Some-2.is c.in_ok-bits-2.ensures)
    (λ b h. c.loop-c.invariant b (omega (arith, c.loop-c-test.false)))
