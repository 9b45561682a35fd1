use Rattle.std.proofs.Common.{◌≡◌, take}
use Rattle.sat_core.specs.Solvers.{vars_of, added_to, sink_of}
use Rattle.ic3_frames.proofs.solve.fill.Given as goal

abbrev pub invariant-loop-at : goal.invariant-loop-at
invariant-loop-at g l = record {
  added : added_to l.solver ≡ take l.at l.clauses;
  vars : vars_of l.solver ≡ vars_of l.fn.solver;
  sink : sink_of l.solver ≡ sink_of l.fn.solver;
}
