use Rattle.expr_elab.proofs.Values.{plain_is}
use Rattle.expr_elab.proofs.numbers.plain_number.Goals as goal

pub returns : goal.returns
returns c = plain_is c.args.number c.make-word.result c.constant-built.result c.make-word.ensures.width c.make-word.ensures.bits c.constant-built.ensures
