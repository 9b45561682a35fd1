use Rattle.std.proofs.Common.{◌≡◌, ◌∙◌, Some, subst, sym}
use Rattle.expr_elab.specs.Elaboration.{assigned_of}
use Rattle.expr_elab.proofs.Laws.{assigned_closed}
use Rattle.elab_flat.proofs.Ports.{start_is}
use Rattle.elab_flat.proofs.nets.start.Goals as goal

pub value-word-requires : goal.value-word-requires
value-word-requires c =
    assigned_closed c.args.width c.in-Some.expr c.in-Some-2.expr c.requires
    (subst (λ scope. assigned_of scope c.args.width c.in-Some.expr ≡ Some c.in-Some-2.expr) c.new-empty.ensures (sym c.in_ok-expr.ensures.value ∙ c.in-Some-2.is))

pub returns : goal.returns
returns c =
    start_is c.args.width c.args.value.now c.in-Some.expr c.new-empty.result c.in-Some-2.expr c.value-word.result.bits c.in-Some.is c.new-empty.ensures (sym c.in-Some-2.is ∙ c.in_ok-expr.ensures.value)
    c.value-word.ensures.bits
