use Rattle.plain_blast.proofs.ChainLaws.{bound_more, bound_all}
use Rattle.plain_blast.proofs.points.site_bound.Goals as goal

pub loop-p-preserved : goal.loop-p-preserved
loop-p-preserved c = bound_more c.args.paths.now c.loop-p.p-index c.loop-p.bound c.max-bound.result _ c.loop-p-test.true c.loop-p.invariant c.max-bound.ensures

pub returns : goal.returns
returns c = bound_all c.args.paths.now c.loop-p.p-index c.loop-p.bound c.loop-p-test.false c.loop-p.invariant
