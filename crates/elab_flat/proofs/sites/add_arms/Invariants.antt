use Rattle.std.proofs.Common.{◌≡◌, ◌++◌, ◌+◌, ◌-◌}
use Rattle.elab_flat.specs.Bodies.{arms_from}
use Rattle.elab_flat.proofs.sites.add_arms.Given as goal

abbrev pub invariant-loop-k : goal.invariant-loop-k
invariant-loop-k l = l.sites ++ arms_from l.path (l.k + 1) (l.count - l.k) ≡ l.initial.sites ++ arms_from l.path 1 l.count
