use Rattle.std.proofs.Common.{◌≡◌, ◌+◌, ◌/◌, true, length}
use Rattle.bit_system.specs.Machine.{hit_literal}
use Rattle.point_cone.specs.Reaching.{on, unmarked, IsUnder}
use Rattle.point_cone.proofs.reach.reach_all.Given as goal

abbrev pub invariant-loop-node : goal.invariant-loop-node
invariant-loop-node l = record {
  under : IsUnder l.system l.point l.marks l.waiting.items;
  hit : on l.marks (hit_literal l.system l.point / 2) ≡ true;
}

abbrev pub decreases-loop-node : goal.decreases-loop-node
decreases-loop-node l = unmarked l.marks + length l.waiting.items
