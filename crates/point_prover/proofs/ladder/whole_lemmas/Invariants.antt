use Rattle.std.proofs.Common.{◌≡◌, map, take}
use Rattle.point_cone.specs.Back.{whole_lemma}
use Rattle.point_prover.proofs.ladder.whole_lemmas.Given as goal

abbrev pub invariant-loop-lemma : goal.invariant-loop-lemma
invariant-loop-lemma l = l.whole ≡ map (whole_lemma l.cone.states) (take l.lemma-index l.lemmas)
