use Rattle.elab_flat.specs.Bodies.{body_of}
use Rattle.elab_flat.specs.Assigned.{assigns_registers}
use Rattle.elab_flat.proofs.Assigning.{Passing}
use Rattle.elab_flat.proofs.targets.assign_registers.Given as goal

abbrev pub invariant-loop-item : goal.invariant-loop-item
invariant-loop-item l = Passing (λ i. assigns_registers l.registers (body_of i)) l.items l.item-index
