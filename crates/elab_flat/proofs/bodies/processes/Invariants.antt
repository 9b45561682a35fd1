use Rattle.std.proofs.Common.{drop}
use Rattle.elab_flat.proofs.Turns.{Processes}
use Rattle.elab_flat.proofs.bodies.processes.Given as goal

abbrev pub invariant-loop-item : goal.invariant-loop-item
invariant-loop-item l = Processes l.scope l.clock (drop l.item-index l.items) l.numbers l.processes l.items l.initial.numbers
