use Rattle.std.proofs.Common.{◌+◌, refl, arith}
use Rattle.expr_elab.proofs.Values.{counted, uncounted}
use Rattle.expr_elab.proofs.selects.count_after.Goals as goal

pub returns-then-number-lt128 : goal.returns-then-number-lt128
returns-then-number-lt128 c = counted (c.args.number + 1) _ (omega arith) (omega (arith, c.if-number-lt128.true)) refl

pub returns-else-number-lt128 : goal.returns-else-number-lt128
returns-else-number-lt128 c = uncounted (c.args.number + 1) (omega (arith, c.if-number-lt128.false))
