use Rattle.std.proofs.Common.{rules, ap, sym, ◌∙◌, map, length, subst}
use Rattle.bit_exprs.specs.declared.forms.Expr.{Expr}
use Rattle.bit_exprs.specs.declared.forms.Expr.TheFolds as folds
use Rattle.bit_exprs.specs.Values.{bit_at, width_of, sign_of, value_of, selected, row_holds}
use Rattle.bit_exprs.specs.Formed.{AreBits}
use Rattle.bit_exprs.proofs.Rows.{row_more, row_done, after_first}
use Rattle.bit_exprs.proofs.Variants.{select_formed, select_width_is, select_value, unary_formed, unary_takes, unary_width_is, unary_value_is, binary_formed, binary_takes, binary_width_is, binary_value_is, choose_formed, choose_width_is, choose_value_is, operand_formed, logical_width_is, logical_value_is}
use Rattle.expr_value.proofs.evaluate.+value.Goals as goal

pub value-at-requires : goal.value-at-requires
value-at-requires t c = (search (rules, folds.the_lemmas), rw c.get-inner.ensures (select_formed _ _ _ _ c.in-Select.is _ c.requires).2)

pub select-requires-clause-wide : goal.select-requires-clause-wide
select-requires-clause-wide t c = (select_formed _ _ _ _ c.in-Select.is _ c.requires).1

pub select-requires-clause-exist : goal.select-requires-clause-exist
select-requires-clause-exist t c = subst (AreBits (length c.args.values.now)) (sym c.as_slice-in-Select.ensures) (select_formed _ _ _ _ c.in-Select.is _ c.requires).0

pub returns-in-Select-clause-width : goal.returns-in-Select-clause-width
returns-in-Select-clause-width t c = select_width_is _ _ _ _ c.in-Select.is _ c.select.ensures.width

pub returns-in-Select-clause-bits : goal.returns-in-Select-clause-bits
returns-in-Select-clause-bits t c =
    select_value _ _ _ _ c.in-Select.is _ _ _ _ _ (c.value-at.ensures.width ∙ ap width_of c.get-inner.ensures) (c.value-at.ensures.bits ∙ ap (λ e. value_of e c.args.values.now) c.get-inner.ensures)
    (c.is_signed-signed.ensures ∙ ap sign_of c.get-inner.ensures)
    (c.select.ensures.bits ∙ ap (λ xs. selected c.in-Select.window (map (bit_at c.args.values.now) xs) c.value-at.result.width c.is_signed-signed.result c.value-at.result.bits) c.as_slice-in-Select.ensures)

pub value-x-requires : goal.value-x-requires
value-x-requires t c = (search (rules, folds.the_lemmas), rw c.get-body.ensures (unary_formed _ _ _ c.in-Unary.is _ c.requires).1)

pub unary-requires : goal.unary-requires
unary-requires t c = unary_takes _ _ _ c.in-Unary.is _ _ c.requires (c.value-x.ensures.width ∙ ap width_of c.get-body.ensures)

pub returns-in-Unary-clause-width : goal.returns-in-Unary-clause-width
returns-in-Unary-clause-width t c = unary_width_is _ _ _ c.in-Unary.is _ _ (c.value-x.ensures.width ∙ ap width_of c.get-body.ensures) c.unary.ensures.width

pub returns-in-Unary-clause-bits : goal.returns-in-Unary-clause-bits
returns-in-Unary-clause-bits t c =
    unary_value_is _ _ _ c.in-Unary.is _ _ _ _ (c.value-x.ensures.width ∙ ap width_of c.get-body.ensures) (c.value-x.ensures.bits ∙ ap (λ e. value_of e c.args.values.now) c.get-body.ensures) c.unary.ensures.bits

pub value-a-requires : goal.value-a-requires
value-a-requires t c = (search (rules, folds.the_lemmas), rw c.get-l.ensures (binary_formed _ _ _ _ c.in-Binary.is _ c.requires).1)

pub value-b-requires : goal.value-b-requires
value-b-requires t c = (search (rules, folds.the_lemmas), rw c.get-r.ensures (binary_formed _ _ _ _ c.in-Binary.is _ c.requires).2)

pub binary-requires : goal.binary-requires
binary-requires t c =
    binary_takes _ _ _ _ c.in-Binary.is _ _ _ c.requires (c.value-a.ensures.width ∙ ap width_of c.get-l.ensures) (c.value-b.ensures.width ∙ ap width_of c.get-r.ensures)

pub returns-in-Binary-clause-width : goal.returns-in-Binary-clause-width
returns-in-Binary-clause-width t c =
    binary_width_is _ _ _ _ c.in-Binary.is _ _ _ (c.value-a.ensures.width ∙ ap width_of c.get-l.ensures) (c.value-b.ensures.width ∙ ap width_of c.get-r.ensures) c.binary.ensures.width

pub returns-in-Binary-clause-bits : goal.returns-in-Binary-clause-bits
returns-in-Binary-clause-bits t c =
    binary_value_is _ _ _ _ c.in-Binary.is _ _ _ _ _ _ _ _ _ (c.is_signed-sl.ensures ∙ ap sign_of c.get-l.ensures) (c.is_signed-sr.ensures ∙ ap sign_of c.get-r.ensures) c.both-signed.ensures
    (c.value-a.ensures.width ∙ ap width_of c.get-l.ensures) (c.value-b.ensures.width ∙ ap width_of c.get-r.ensures)
    (c.value-a.ensures.bits ∙ ap (λ e. value_of e c.args.values.now) c.get-l.ensures) (c.value-b.ensures.bits ∙ ap (λ e. value_of e c.args.values.now) c.get-r.ensures) c.binary.ensures.bits

pub value-test-requires : goal.value-test-requires
value-test-requires t c = (search (rules, folds.the_lemmas), rw c.get-t.ensures (choose_formed _ _ _ _ c.in-Choose.is _ c.requires).1)

pub value-requires : goal.value-requires
value-requires t c = (search (rules, folds.the_lemmas), rw c.get-n.ensures (choose_formed _ _ _ _ c.in-Choose.is _ c.requires).3)

pub value-requires-else-is_zero : goal.value-requires-else-is_zero
value-requires-else-is_zero t c = (search (rules, folds.the_lemmas), rw c.get-y.ensures (choose_formed _ _ _ _ c.in-Choose.is _ c.requires).2)

pub returns-then-is_zero-clause-width : goal.returns-then-is_zero-clause-width
returns-then-is_zero-clause-width t c =
    c.value.ensures.width ∙ ap width_of c.get-n.ensures ∙ (choose_formed _ _ _ _ c.in-Choose.is _ c.requires).0 ∙ choose_width_is _ _ _ _ c.in-Choose.is

pub returns-then-is_zero-clause-bits : goal.returns-then-is_zero-clause-bits
returns-then-is_zero-clause-bits t c =
    c.value.ensures.bits ∙ ap (λ e. value_of e c.args.values.now) c.get-n.ensures
    ∙ choose_value_is _ _ _ _ c.in-Choose.is c.args.values.now _ _ (c.value-test.ensures.bits ∙ ap (λ e. value_of e c.args.values.now) c.get-t.ensures) (sym c.is_zero.ensures ∙ c.if-is_zero.true)

pub returns-else-is_zero-clause-width : goal.returns-else-is_zero-clause-width
returns-else-is_zero-clause-width t c = c.value-else-is_zero.ensures.width ∙ ap width_of c.get-y.ensures ∙ choose_width_is _ _ _ _ c.in-Choose.is

pub returns-else-is_zero-clause-bits : goal.returns-else-is_zero-clause-bits
returns-else-is_zero-clause-bits t c =
    c.value-else-is_zero.ensures.bits ∙ ap (λ e. value_of e c.args.values.now) c.get-y.ensures
    ∙ choose_value_is _ _ _ _ c.in-Choose.is c.args.values.now _ _ (c.value-test.ensures.bits ∙ ap (λ e. value_of e c.args.values.now) c.get-t.ensures) (sym c.is_zero.ensures ∙ c.if-is_zero.false)

pub value-next-requires : goal.value-next-requires
value-next-requires t c =
    (search (rules, folds.the_lemmas), operand_formed _ _ _ _ c.in-Logical.is _ _ _ _ c.requires c.as_slice-operand-items.ensures c.loop-operand-test.true c.operand-item.is)

pub loop-operand-init : goal.loop-operand-init
loop-operand-init t c = after_first _ _

pub loop-operand-preserved : goal.loop-operand-preserved
loop-operand-preserved t c =
    row_more (λ (e : Expr). value_of e c.args.values.now) c.in-Logical.and _ _ _ c.operand-item.result _ _ _ _ c.loop-operand-test.true c.operand-item.is c.value-next.ensures.bits c.combined-holds.ensures c.loop-operand.invariant

pub returns-after-loop-operand-clause-width : goal.returns-after-loop-operand-clause-width
returns-after-loop-operand-clause-width t c = logical_width_is _ _ _ _ c.in-Logical.is _ c.flag.ensures.width

pub returns-after-loop-operand-clause-bits : goal.returns-after-loop-operand-clause-bits
returns-after-loop-operand-clause-bits t c =
    logical_value_is _ _ _ _ c.in-Logical.is _ _ _
    (row_done (λ (e : Expr). value_of e c.args.values.now) c.in-Logical.and _ _ _ _ c.loop-operand-test.false c.loop-operand.invariant
    ∙ ap (λ xs. row_holds c.in-Logical.and (map (λ (e : Expr). value_of e c.args.values.now) xs)) c.as_slice-operand-items.ensures)
    c.flag.ensures.bits
