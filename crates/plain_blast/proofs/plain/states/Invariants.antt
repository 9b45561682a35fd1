use Rattle.std.proofs.Common.{◌≡◌, map, take}
use Rattle.plain_blast.specs.Plain.{state_of}
use Rattle.plain_blast.proofs.plain.states.Given as goal

abbrev pub invariant-loop-bit : goal.invariant-loop-bit
invariant-loop-bit l = l.states ≡ map (state_of l.bits) (take l.bit-index l.registers)
