use Rattle.elab_flat.specs.Assigned.{targets_registers}
use Rattle.elab_flat.proofs.Assigning.{Passing}
use Rattle.elab_flat.proofs.targets.+targets_registers.Given as goal

abbrev pub invariant-loop-part : goal.invariant-loop-part
invariant-loop-part l = Passing (targets_registers l.registers) l.part-items l.part-index
