use Rattle.std.proofs.Common.{refl, subst, sym, ◌∙◌}
use Rattle.source_check.proofs.OneByOne.{HoldUpTo, hold_none, hold_more}
use Rattle.source_check.proofs.judging.judge_claims.Goals as goal

pub loop-k-init : goal.loop-k-init
loop-k-init c =
    let g = c.args.grounds.now in
    record {
      hold =
          subst (HoldUpTo g.system g.legal.now.design g.setup.now c.args.points.now c.args.claims.now 0) (sym c.new-accepted.ensures)
          (hold_none g.system g.legal.now.design g.setup.now c.args.points.now c.args.claims.now);
      vars = refl;
    }

pub loop-k-preserved : goal.loop-k-preserved
loop-k-preserved c =
    let g = c.args.grounds.now in
    record {
      hold =
          hold_more g.system g.legal.now.design g.setup.now c.args.points.now c.args.claims.now c.loop-k.k c.loop-k.accepted c.index-claims-k.result c.loop-k.invariant.hold
          c.loop-k-test.true c.index-claims-k.is c.index-points-k.result c.if-k-points.false c.index-points-k.is c.push.new.self c.in_ok-tell.field-0
          c.in_ok-push.ensures.ok c.in_ok-tell.ensures c.in_ok-judge_claim.ensures.judged;
      vars = c.judge_claim.ensures.vars ∙ c.loop-k.invariant.vars;
    }
