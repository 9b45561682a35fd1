use Rattle.std.proofs.Common.{◌≡◌}
use Rattle.sat_core.specs.Solvers.{vars_of}
use Rattle.solve_cnf.proofs.solve.add_all.Given as goal

abbrev pub invariant-loop-at : goal.invariant-loop-at
invariant-loop-at g l = vars_of l.solver ≡ l.vars
