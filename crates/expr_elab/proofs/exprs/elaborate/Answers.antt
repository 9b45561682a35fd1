use Rattle.expr_elab.proofs.Laws.{good_if}
use Rattle.expr_elab.proofs.exprs.elaborate.Goals as goal

pub returns-clause-good : goal.returns-clause-good
returns-clause-good c = good_if c.args.scope.now c.args.source.now c.in_ok-built.built c.in_ok-built.ensures
