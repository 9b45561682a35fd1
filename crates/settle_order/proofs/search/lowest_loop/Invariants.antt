use Rattle.std.proofs.Common.{ℕ, ◌<◌}
use Rattle.settle_order.specs.Loops.{IsLooped}
use Rattle.settle_order.proofs.search.lowest_loop.Given as goal

abbrev pub invariant-loop-c : goal.invariant-loop-c
invariant-loop-c l = (b : ℕ) → b < l.c → IsLooped l.nodes b → ⊥
