use Rattle.std.proofs.Common.{◌≡◌, true, false, sym, ◌∙◌, subst}
use Rattle.std.specs.Prelude.{IfSome}
use Rattle.expr_elab.specs.Formed.{IsGood}
use Rattle.expr_elab.proofs.tests.constant_value.Goals as goal

clash : true ≡ false → ⊥
clash e = cc

pub value-word-requires : goal.value-word-requires
value-word-requires c =
    let good = subst (λ o. IfSome o (IsGood c.new-scope.result)) c.in-Some.is c.in_ok-built.ensures.good in
    good.formed 0 (λ closed. absurd (clash (sym c.if-built.true ∙ closed)))
