use Rattle.std.proofs.Common.{arith}
use Rattle.ic3_frames.proofs.Lists.{empty_core, no_solution}
use Rattle.ic3_frames.proofs.solve.run.Goals as goal

pub returns-in-Model-clause-solved : goal.returns-in-Model-clause-solved
returns-in-Model-clause-solved g c =
    let a = rw c.in-Model.is at c.in_ok-conflicts.ensures.answer in
    (a.0.long, a.0.clauses_true, omega arith)

pub returns-in-Refuted-clause-solved : goal.returns-in-Refuted-clause-solved
returns-in-Refuted-clause-solved g c =
    let a = rw c.in-Refuted.is at c.in_ok-conflicts.ensures.answer in
    (no_solution _ _ a.0, omega arith)

pub returns-in-Refuted-clause-shows : goal.returns-in-Refuted-clause-shows
returns-in-Refuted-clause-shows g c =
    let a = rw c.in-Refuted.is at c.in_ok-conflicts.ensures.answer in
    let told = rw c.in-Refuted.is at c.in_ok-conflicts.ensures.core in
    rw (empty_core _ _ a.0) at told
