use Rattle.std.proofs.Common.{Some, sym, ◌∙◌, ap, subst}
use Rattle.std.specs.Prelude.{IfSome, option_map}
use Rattle.expr_elab.specs.Elaboration.{at_least}
use Rattle.expr_elab.specs.Formed.{IsValue}
use Rattle.expr_elab.proofs.Laws.{assigned_value}
use Rattle.expr_elab.proofs.exprs.assigned.Goals as goal

pub returns-clause-formed : goal.returns-clause-formed
returns-clause-formed c =
    let scope = c.args.scope.now in
    let width = c.args.width in
    subst (λ o. IfSome o (IsValue scope width)) (sym (ap Some c.in_ok-value.ensures ∙ ap (option_map (at_least width)) (sym c.in-Some.is ∙ c.in_ok-x.ensures)))
    (assigned_value scope width c.args.source.now c.requires)
