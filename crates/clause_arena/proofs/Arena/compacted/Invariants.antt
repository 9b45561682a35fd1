use Rattle.std.proofs.Common.{take}
use Rattle.clause_arena.specs.Moving.{Compacts}
use Rattle.clause_arena.proofs.Arena.compacted.Given as goal

abbrev pub invariant-loop-at : goal.invariant-loop-at
invariant-loop-at l = Compacts (take l.at l.self.places) l.fresh.places l.moves
