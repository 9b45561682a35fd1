use Rattle.std.proofs.Common.{◌≡◌, ◌/◌, true, take}
use Rattle.std.specs.Prelude.{All}
use Rattle.generalise.specs.Lifting.{on}
use Rattle.generalise.proofs.lift.mark_all.Given as goal

abbrev pub invariant-loop-literal : goal.invariant-loop-literal
invariant-loop-literal l = All (λ x. on l.marks (x / 2) ≡ true) (take l.literal-index l.literals)
