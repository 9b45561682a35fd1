use Rattle.std.proofs.Common.{◌≡◌, true, arith}
use Rattle.std.proofs.lemmas.Grind.{common_steps}
use Rattle.generalise.specs.Cubes.{misses_start}
use Rattle.ic3_frames.proofs.Traces.{level_above}
use Rattle.ic3_frames.proofs.search.advance.Goals as goal

pub lead-requires-clause-level : goal.lead-requires-clause-level
lead-requires-clause-level c =
    let chain = rw c.in-Some.ensures at c.requires.chain in
    let misses : misses_start c.args.system.now c.in-Some.first.cube ≡ true = grind (arith, common_steps) in
    level_above c.args.system.now c.in-Some.first chain.0 misses
