use Rattle.std.proofs.Common.{◌≡◌, take}
use Rattle.point_prover.specs.Levels.{all_for_ever}
use Rattle.point_prover.proofs.ladder.lemmas_for_ever.Given as goal

abbrev pub invariant-loop-lemma : goal.invariant-loop-lemma
invariant-loop-lemma l = l.kept ≡ all_for_ever l.level (take l.lemma-index l.lemmas)
