use Rattle.std.proofs.Common.{◌≡◌, map, take}
use Rattle.source_check.specs.Ladders.{lemma_of}
use Rattle.source_check.specs.Places.{place_in}
use Rattle.source_check.proofs.ladders.lemmas.Given as goal

abbrev pub invariant-loop-one : goal.invariant-loop-one
invariant-loop-one l = l.lemmas ≡ map (lemma_of (place_in l.places)) (take l.one-index l.named)
