use Rattle.std.proofs.Common.{arith}
use Rattle.clause_names.proofs.Names.{named_positive}
use Rattle.clause_names.proofs.naming.named_literal.Goals as goal

pub make-requires-clause-low : goal.make-requires-clause-low
make-requires-clause-low c = rw c.as_slice-names.ensures.keys (named_positive c.args.names.now.keys c.variable.result 0 c.requires.naming c.variable.ensures.low (omega (arith, c.variable.ensures.value, c.requires.below)))
