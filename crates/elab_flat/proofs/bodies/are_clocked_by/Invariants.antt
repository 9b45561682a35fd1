use Rattle.std.proofs.Common.{take}
use Rattle.std.specs.Prelude.{All}
use Rattle.elab_flat.specs.Bodies.{IsClockedBy}
use Rattle.elab_flat.proofs.bodies.are_clocked_by.Given as goal

abbrev pub invariant-loop-item : goal.invariant-loop-item
invariant-loop-item l = All (IsClockedBy l.clock) (take l.item-index l.items)
