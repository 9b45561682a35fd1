use Rattle.std.proofs.Common.{sym, ◌∙◌}
use Rattle.aig_core.proofs.Values.{Extends-trans}
use Rattle.expr_blast.proofs.Loops.{bit_more, bit_done}
use Rattle.expr_blast.proofs.selecting.selected_bit.Goals as goal

pub loop-p-preserved : goal.loop-p-preserved
loop-p-preserved c = record {
  rest =
      sym (bit_more c.args.window c.args.signed c.args.index.now c.args.k c.loop-p.aig c.place.new.aig c.with_place.new.aig c.loop-p.so_far c.in_ok-here.here c.in_ok-so_far.so_far c.loop-p.p c.args.vector.now c.loop-p-test.true
      c.in_ok-here.ensures.exact c.in_ok-so_far.ensures.exact)
      ∙ c.loop-p.invariant.rest;
  kept = Extends-trans _ _ _ c.loop-p.invariant.kept (Extends-trans _ _ _ c.place.ensures.kept c.with_place.ensures.kept);
  exists = c.in_ok-so_far.ensures.exists;
}

pub returns-clause-exact : goal.returns-clause-exact
returns-clause-exact c =
    sym (bit_done c.args.window c.args.signed c.args.index.now c.args.k c.loop-p.aig c.loop-p.so_far c.loop-p.p c.args.vector.now c.loop-p-test.false) ∙ c.loop-p.invariant.rest
