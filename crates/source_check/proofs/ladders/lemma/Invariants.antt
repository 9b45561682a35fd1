use Rattle.std.proofs.Common.{◌≡◌, map, take}
use Rattle.source_check.specs.Ladders.{lit_of}
use Rattle.source_check.specs.Places.{place_in}
use Rattle.source_check.proofs.ladders.lemma.Given as goal

abbrev pub invariant-loop-literal : goal.invariant-loop-literal
invariant-loop-literal l = l.lits ≡ map (lit_of (place_in l.places)) (take l.literal-index l.named.lits)
