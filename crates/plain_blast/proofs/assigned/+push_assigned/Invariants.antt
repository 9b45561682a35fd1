use Rattle.std.proofs.Common.{◌≡◌, ◌++◌, take}
use Rattle.std.specs.Prelude.{flat_map}
use Rattle.plain_blast.specs.Assigned.{targets_of}
use Rattle.plain_blast.proofs.assigned.+push_assigned.Given as goal

abbrev pub invariant-loop-s : goal.invariant-loop-s
invariant-loop-s l = l.bits.items ≡ l.initial.bits.items ++ flat_map targets_of (take l.s-index l.s-items)
