use Rattle.bit_exprs.specs.Indices.{names_place}
use Rattle.expr_value.proofs.Writing.{place_more, place_done}
use Rattle.expr_value.proofs.writes.write_place.Goals as goal

pub loop-p-preserved : goal.loop-p-preserved
loop-p-preserved c =
    place_more (names_place c.args.window c.args.at.width c.args.signed c.args.at.bits c.args.k) c.args.vector.now _ _ _ _ c.loop-p.invariant _ _ c.loop-p-test.true c.names.ensures c.put_if.ensures

pub returns : goal.returns
returns c = place_done (names_place c.args.window c.args.at.width c.args.signed c.args.at.bits c.args.k) c.args.vector.now _ _ _ _ c.loop-p.invariant c.loop-p-test.false
