use Rattle.elab_flat.specs.Assigned.{assigns_registers}
use Rattle.elab_flat.proofs.Assigning.{Passing}
use Rattle.elab_flat.proofs.targets.+assigns_registers.Given as goal

abbrev pub invariant-loop-s : goal.invariant-loop-s
invariant-loop-s l = Passing (assigns_registers l.registers) l.s-items l.s-index
