use Rattle.std.proofs.Common.{drop}
use Rattle.elab_flat.proofs.Turns.{Turns}
use Rattle.elab_flat.proofs.bodies.+stmt.Given as goal

abbrev pub invariant-stmt-loop-s : goal.invariant-stmt-loop-s
invariant-stmt-loop-s l = Turns l.scope (drop l.s-index l.s-items) l.numbers l.all l.s-items l.initial.numbers
