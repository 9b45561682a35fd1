use Rattle.source_check.specs.Ladders.{state_names}
use Rattle.source_check.proofs.Placing.{Placing}
use Rattle.source_check.proofs.places.places_of.Given as goal

abbrev pub invariant-loop-place : goal.invariant-loop-place
invariant-loop-place l = Placing (state_names l.states) l.place l.first.entries
