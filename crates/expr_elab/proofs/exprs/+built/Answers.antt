use Rattle.std.proofs.Common.{sym, ◌∙◌, ap, refl}
use Rattle.expr_elab.specs.Elaboration.{built_of}
use Rattle.expr_elab.proofs.Laws.{closed_if, picked_closed_if}
use Rattle.expr_elab.proofs.Turns.{value_more, operand_more}
use Rattle.expr_elab.proofs.exprs.+built.Goals as goal

pub built-select_there-requires : goal.built-select_there-requires
built-select_there-requires t c = picked_closed_if c.args.scope.now c.in-Some.select _ c.in_ok-picked-in-Some.ensures

pub built-repeated_there-requires : goal.built-repeated_there-requires
built-repeated_there-requires t c = closed_if c.args.scope.now c.in-Repeat.count _ (c.in_ok-times-in-Repeat.ensures ∙ ap (built_of c.args.scope.now) c.get-in-Repeat.ensures)

pub concatenated-loop-value-preserved : goal.concatenated-loop-value-preserved
concatenated-loop-value-preserved t c =
    value_more (built_of c.args.scope.now) c.args.values.now c.loop-value.value-index c.value-item.result c.loop-value.all _ c.value-item.is c.loop-value-test.true c.loop-value.invariant
    c.in-Some.x c.in-Some-2.next _ (sym c.in_ok-x.ensures ∙ c.in-Some.is) (sym c.in_ok-next.ensures ∙ c.in-Some-2.is) refl

pub row_from-loop-other-preserved : goal.row_from-loop-other-preserved
row_from-loop-other-preserved t c =
    operand_more c.args.scope.now c.args.others.now c.loop-other.other-index c.loop-other.all c.other-item.result _ _ c.row_op.result c.in_ok-x.x c.other-item.is c.loop-other-test.true
    c.in_ok-x.ensures c.row_op.ensures c.in_ok-all.ensures c.loop-other.invariant
