use Rattle.std.proofs.Common.{take}
use Rattle.elab_flat.specs.Owners.{AreFree}
use Rattle.elab_flat.proofs.drivers.free_registers.Given as goal

abbrev pub invariant-loop-bit : goal.invariant-loop-bit
invariant-loop-bit l = AreFree (take l.bit-index l.registers) l.owners
