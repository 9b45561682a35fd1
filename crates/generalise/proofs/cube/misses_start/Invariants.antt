use Rattle.std.proofs.Common.{◌≡◌, drop}
use Rattle.generalise.specs.Cubes.{misses_start}
use Rattle.generalise.proofs.cube.misses_start.Given as goal

abbrev pub invariant-loop-lit : goal.invariant-loop-lit
invariant-loop-lit l = misses_start l.system (drop l.lit-index l.lit-items) ≡ misses_start l.system l.lit-items
