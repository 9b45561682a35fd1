use Rattle.source_check.proofs.Placing.{placing_more}
use Rattle.source_check.proofs.places.places_of.Goals as goal

pub loop-place-preserved : goal.loop-place-preserved
loop-place-preserved c =
    placing_more c.args.states.now c.loop-place.place c.loop-place.first.entries c.loop-place.invariant c.index-states-place.result c.put.new.places.entries
    c.index-states-place.is c.loop-place-test.true c.in_ok-put.ensures
