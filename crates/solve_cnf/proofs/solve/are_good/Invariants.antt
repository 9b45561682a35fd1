use Rattle.std.proofs.Common.{◌≢◌, get_or, take}
use Rattle.std.specs.Prelude.{All}
use Rattle.cnf_core.specs.Literal.{Literal}
use Rattle.cnf_core.specs.Lrat.{HasGoodVars}
use Rattle.solve_cnf.proofs.Lits.{no_literal}
use Rattle.solve_cnf.proofs.solve.are_good.Given as goal

abbrev pub invariant-loop-at : goal.invariant-loop-at
invariant-loop-at l = HasGoodVars l.vars (take l.at l.lits)

abbrev pub invariant-loop-before : goal.invariant-loop-before
invariant-loop-before l = All (λ (m : Literal). m.variable ≢ (get_or l.lits l.at no_literal).variable) (take l.before l.lits)
