use Rattle.cycle_model.proofs.Hits.{none_verdict, some_verdict}
use Rattle.cycle_model.proofs.replay.hits_at.Goals as goal

pub returns-in-None : goal.returns-in-None
returns-in-None c =
    none_verdict c.in_ok-sim.sim.legal c.args.legal.now c.design.result.now c.args.setup.now c.args.stimulus.now c.args.site c.args.cycle c.as_slice-lines.result.now c.in_ok-sim.sim.held c.as_slice.result.now
    c.design.ensures.design c.design.ensures.legal (c.fits.ensures.0 c.if-not-fits.false) c.as_slice-lines.ensures (c.ends_at.ensures.0 c.if-not-ends_at.false)
    c.in_ok-sim.ensures.legal c.in_ok-sim.ensures.held c.as_slice.ensures c.in-None.ensures

pub returns : goal.returns
returns c =
    some_verdict c.in_ok-sim.sim.legal c.args.legal.now c.design.result.now c.args.setup.now c.args.stimulus.now c.args.site c.args.cycle c.as_slice-lines.result.now c.in_ok-sim.sim.held c.as_slice.result.now
    c.design.ensures.design c.design.ensures.legal (c.fits.ensures.0 c.if-not-fits.false) c.as_slice-lines.ensures (c.ends_at.ensures.0 c.if-not-ends_at.false)
    c.in_ok-sim.ensures.legal c.in_ok-sim.ensures.held c.as_slice.ensures c.in-Some.k c.in-Some.ensures
