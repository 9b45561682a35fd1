use Rattle.std.proofs.Common.{◌∙◌}
use Rattle.sat_core.specs.Solvers.{vars_of, added_to, sink_of}
use Rattle.clause_names.proofs.Whole.{unsolvable as numbers_unsolvable}
use Rattle.point_prover.proofs.Refuted.{kept_refute, numbers_fit, unsolvable}
use Rattle.point_prover.proofs.proving.refute.Goals as goal

pub fill-requires-clause-vars : goal.fill-requires-clause-vars
fill-requires-clause-vars c = numbers_fit c.args.clauses.now c.in_ok-numbered.numbered c.vars.result (vars_of c.in_ok-solver.solver) c.in_ok-numbered.ensures c.in_ok-solver.ensures.vars c.vars.ensures

pub proof-requires-clause-refutes : goal.proof-requires-clause-refutes
proof-requires-clause-refutes c =
    let shown = rw c.in-Refuted.is at c.in-Ok.ensures.shows in (
      c.vars.result,
      c.vars.ensures,
      kept_refute (vars_of c.fill.new.solver) c.vars.result c.in_ok-numbered.numbered.clauses (added_to c.fill.new.solver) c.make.result (sink_of c.fill.new.solver) (sink_of c.run.new.solver)
          c.close-sink.result c.lines.result.now (c.in_ok-fill.ensures.vars ∙ c.in_ok-solver.ensures.vars) c.in_ok-fill.ensures.added (c.in_ok-fill.ensures.sink ∙ c.in_ok-solver.ensures.sink)
          c.close-sink.ensures c.make.ensures c.lines.ensures shown,
    )

pub unreachable-requires : goal.unreachable-requires
unreachable-requires c =
    let none = numbers_unsolvable c.args.clauses.now c.in_ok-numbered.numbered c.in_ok-numbered.ensures c.requires in
    let solved = rw c.in-Values.is at c.in-Ok.ensures.solved in
    unsolvable (vars_of c.fill.new.solver) c.in_ok-numbered.numbered.clauses (added_to c.fill.new.solver) c.args.units.now c.run.new.units c.in-Values.field-0 c.in_ok-fill.ensures.added none solved
