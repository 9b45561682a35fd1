use Rattle.std.proofs.Common.{◌≡◌, ◌+◌, drop, map}
use Rattle.elab_flat.specs.Bodies.{total, assignments_in}
use Rattle.elab_flat.proofs.bodies.+room_after.Given as goal

abbrev pub invariant-loop-s : goal.invariant-loop-s
invariant-loop-s l = l.left + total (map assignments_in l.s-items) ≡ l.room + total (map assignments_in (drop l.s-index l.s-items))
