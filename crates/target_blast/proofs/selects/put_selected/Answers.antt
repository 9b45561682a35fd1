use Rattle.std.proofs.Common.{◌∙◌}
use Rattle.aig_core.proofs.Values.{Extends-trans}
use Rattle.target_blast.proofs.Steps.{bit_more, bit_done}
use Rattle.target_blast.proofs.selects.put_selected.Goals as goal

pub loop-k-preserved : goal.loop-k-preserved
loop-k-preserved c =
    let i = c.loop-k.invariant in
    let put = c.in_ok-put_where.ensures in
    let s = c.args.selector in
    record {
      rest = bit_more s.window s.signed c.args.index.now c.args.vector.now c.args.word.now c.loop-k.k c.loop-k.aig c.put_where.new.aig c.loop-k.targets c.put_where.new.targets _ c.loop-k-test.true put.exact i.rest;
      exist = put.exist;
      long = put.long ∙ i.long;
      kept = Extends-trans c.args.aig.now c.loop-k.aig c.put_where.new.aig i.kept put.kept;
    }

pub returns-clause-exact : goal.returns-clause-exact
returns-clause-exact c =
    bit_done c.args.selector.window c.args.selector.signed c.args.index.now c.args.vector.now c.args.word.now c.loop-k.k c.loop-k.aig c.loop-k.targets _ c.loop-k-test.false c.loop-k.invariant.rest
