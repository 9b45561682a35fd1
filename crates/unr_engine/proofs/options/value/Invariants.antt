use Rattle.std.proofs.Common.{◌≡◌, ◌≤◌, length}
use Rattle.unr_engine.specs.Requests.{value_after}
use Rattle.unr_engine.proofs.options.value.Given as goal

abbrev pub invariant-loop-rest : goal.invariant-loop-rest
invariant-loop-rest l = (value_after l.max l.n l.rest ≡ value_after l.max 0 l.word) × (l.n ≤ l.max)

abbrev pub decreases-loop-rest : goal.decreases-loop-rest
decreases-loop-rest l = length l.rest
