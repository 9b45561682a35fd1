use Rattle.std.proofs.Common.{[], ◌∷◌, ◌++◌, ap, ◌∙◌}
use Rattle.expr_blast.proofs.Loops.{constants_more}
use Rattle.expr_blast.proofs.literals.constants.Goals as goal

pub loop-preserved : goal.loop-preserved
loop-preserved c =
    constants_more c.args.word.width c.loop.counter c.loop.rest _ _ _ c.loop-test.true (c.in_ok-push.ensures.items ∙ ap (λ x. c.loop.literals.items ++ x ∷ []) c.constant.ensures) c.loop.invariant
