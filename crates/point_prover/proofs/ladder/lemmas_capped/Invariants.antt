use Rattle.std.proofs.Common.{◌≡◌, map, take}
use Rattle.point_prover.specs.Levels.{at_level, capped}
use Rattle.point_prover.proofs.ladder.lemmas_capped.Given as goal

abbrev pub invariant-loop-lemma : goal.invariant-loop-lemma
invariant-loop-lemma l = l.kept ≡ map (λ m. at_level (capped l.top m.level) m) (take l.lemma-index l.lemmas)
