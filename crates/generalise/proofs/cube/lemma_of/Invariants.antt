use Rattle.std.proofs.Common.{◌≡◌, map, take}
use Rattle.generalise.specs.Cubes.{opposite}
use Rattle.generalise.proofs.cube.lemma_of.Given as goal

abbrev pub invariant-loop-lit : goal.invariant-loop-lit
invariant-loop-lit l = l.lits ≡ map opposite (take l.lit-index l.lit-items)
