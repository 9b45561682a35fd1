use Rattle.std.proofs.Common.{◌≡◌, drop}
use Rattle.plain_blast.specs.Choice.{set_at}
use Rattle.plain_blast.proofs.bodies.set.Given as goal

abbrev pub invariant-loop-k : goal.invariant-loop-k
invariant-loop-k l = set_at (drop l.k l.bits) (drop l.k l.given) l.targets ≡ set_at l.bits l.given l.fn.targets
