use Rattle.std.proofs.Common.{◌≡◌, map, take}
use Rattle.generalise.specs.Cubes.{opposite}
use Rattle.ic3_frames.proofs.frames.cube_of.Given as goal

abbrev pub invariant-loop-lit : goal.invariant-loop-lit
invariant-loop-lit l = l.cube ≡ map opposite (take l.lit-index l.lit-items)
