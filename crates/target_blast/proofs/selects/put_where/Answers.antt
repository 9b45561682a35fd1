use Rattle.std.proofs.Common.{◌∙◌}
use Rattle.aig_core.proofs.Values.{Extends-trans}
use Rattle.target_blast.proofs.Steps.{place_more, place_done}
use Rattle.target_blast.proofs.selects.put_where.Goals as goal

pub loop-p-preserved : goal.loop-p-preserved
loop-p-preserved c =
    let i = c.loop-p.invariant in
    let here = c.in_ok-here.ensures in
    let put = c.in_ok-put_chosen.ensures in
    let s = c.args.selector in
    record {
      rest = place_more s.window s.signed c.args.index.now c.args.vector.now c.args.k c.args.x c.loop-p.p c.place.new.aig c.loop-p.aig c.put_chosen.new.aig c.in_ok-here.here
          c.loop-p.targets c.put_chosen.new.targets _ c.loop-p-test.true here.exact put.exact i.rest;
      exist = put.exist;
      long = put.long ∙ i.long;
      kept = Extends-trans c.args.aig.now c.place.new.aig c.put_chosen.new.aig (Extends-trans c.args.aig.now c.loop-p.aig c.place.new.aig i.kept here.kept) put.kept;
    }

pub returns-clause-exact : goal.returns-clause-exact
returns-clause-exact c =
    place_done c.args.selector.window c.args.selector.signed c.args.index.now c.args.vector.now c.args.k c.args.x c.loop-p.p c.loop-p.aig c.loop-p.targets _ c.loop-p-test.false c.loop-p.invariant.rest
