use Rattle.expr_blast.proofs.Selects.{named}
use Rattle.expr_blast.proofs.places.place.Goals as goal

pub returns-clause-meaning : goal.returns-clause-meaning
returns-clause-meaning c =
    named c.args.window c.args.signed c.args.index.now c.args.k c.args.p c.code-number.result c.index_at-at.result.up c.index_at-at.result.down c.requires.wide.0
    c.index_at-at.ensures.up c.index_at-at.ensures.down c.code-number.ensures c.in_ok-literal.ensures.meaning
