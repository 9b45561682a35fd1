use Rattle.std.proofs.Common.{◌<◌, arith}
use Rattle.settle_order.proofs.Searching.{loop_at_first, back_more}
use Rattle.settle_order.proofs.search.loop_back.Goals as goal

pub loop-at-preserved : goal.loop-at-preserved
loop-at-preserved c =
    let low : 0 < c.loop-at.at = omega (arith, c.loop-at-test.true) in
    record {
      within = omega (arith, c.requires.earlier c.loop-at.at low c.loop-at.invariant.within, c.loop-at.invariant.within);
      between = back_more c.args.c c.args.steps.now c.args.at c.loop-at.at c.loop-at.bits c.push-in-loop-at.new.self c.loop-at.invariant.between low c.loop-at.invariant.within c.in_ok-push-2.ensures.ok;
    }

pub returns : goal.returns
returns c nodes bits steps feeds =
    let b = c.loop-at.invariant.between in
    loop_at_first nodes c.args.c bits b.0 c.loop-at.bits c.args.steps.now c.loop-at.at b.1 steps c.loop-at-test.false (b.2 nodes bits steps feeds)
