use Rattle.std.proofs.Common.{◌≡◌, ◌+◌, drop, ◌≤◌}
use Rattle.elab_flat.specs.Bodies.{assignments_in, sum_over}
use Rattle.elab_flat.proofs.bodies.statement_count.Given as goal

abbrev pub invariant-loop-item : goal.invariant-loop-item
invariant-loop-item l = (l.room ≤ 65536) × (l.room + sum_over assignments_in l.items ≡ 65536 + sum_over assignments_in (drop l.item-index l.items))
