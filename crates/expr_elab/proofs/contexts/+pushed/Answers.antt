use Rattle.std.proofs.Common.{◌∙◌, sym, ap}
use Rattle.expr_elab.specs.Contexts.{pushed}
use Rattle.expr_elab.proofs.Equations.{unary_on, binary_both, binary_left, choose_on}
use Rattle.expr_elab.proofs.contexts.+pushed.Goals as goal

pub returns-in_ok-all-in-On : goal.returns-in_ok-all-in-On
returns-in_ok-all-in-On t c =
    let at = pushed c.args.width c.args.signed in
    unary_on c.args.width c.args.signed c.args.expr c.in-Unary.value c.in-Unary.op c.in-Unary.is _ c.in_ok-value-in-On.value (sym c.unary_passing.ensures ∙ c.in-On.is)
    (c.in_ok-value-in-On.ensures ∙ ap at c.into_inner.ensures) c.in_ok-all-in-On.ensures

pub returns-in_ok-all-in-Both : goal.returns-in_ok-all-in-Both
returns-in_ok-all-in-Both t c =
    let at = pushed c.args.width c.args.signed in
    binary_both c.args.width c.args.signed c.args.expr c.in-Binary.left c.in-Binary.right c.in-Binary.op c.in-Binary.is _ c.in_ok-left-in-Both.left c.in_ok-right-in-Both.right
    (sym c.binary_passing.ensures ∙ c.in-Both.is) (c.in_ok-left-in-Both.ensures ∙ ap at c.into_inner-in-Both.ensures) (c.in_ok-right-in-Both.ensures ∙ ap at c.into_inner-in-Both-2.ensures)
    c.in_ok-all-in-Both.ensures

pub returns-in_ok-all-in-Left : goal.returns-in_ok-all-in-Left
returns-in_ok-all-in-Left t c =
    let at = pushed c.args.width c.args.signed in
    binary_left c.args.width c.args.signed c.args.expr c.in-Binary.left c.in-Binary.right c.in-Binary.op c.in-Binary.is _ c.in_ok-left-in-Left.left c.into_inner-in-Left-2.result
    (sym c.binary_passing.ensures ∙ c.in-Left.is) (c.in_ok-left-in-Left.ensures ∙ ap at c.into_inner-in-Left.ensures) c.into_inner-in-Left-2.ensures c.in_ok-all-in-Left.ensures

pub returns-in_ok-all-in-Choose : goal.returns-in_ok-all-in-Choose
returns-in_ok-all-in-Choose t c =
    let at = pushed c.args.width c.args.signed in
    choose_on c.args.width c.args.signed c.args.expr c.in-Choose.cond c.in-Choose.yes c.in-Choose.no _ c.into_inner-in-Choose-3.result c.in_ok-yes-in-Choose.yes c.in_ok-no-in-Choose.no
    c.in-Choose.is c.into_inner-in-Choose-3.ensures (c.in_ok-yes-in-Choose.ensures ∙ ap at c.into_inner-in-Choose.ensures) (c.in_ok-no-in-Choose.ensures ∙ ap at c.into_inner-in-Choose-2.ensures)
    c.in_ok-all-in-Choose.ensures
