use Rattle.std.proofs.Common.{ap, ◌∙◌}
use Rattle.bit_exprs.specs.Values.{width_of}
use Rattle.bit_exprs.specs.Cost.{capped, cost_of}
use Rattle.expr_cost.proofs.Equations.{tested}
use Rattle.expr_cost.proofs.Weights.{select_cost_is, unary_cost_is, unary_width_is, binary_cost_is, binary_width_is, choose_cost_is, choose_width_is, sum_more, tested_is, row_cost_is}
use Rattle.expr_cost.proofs.expressions.+weigh.Goals as goal

pub returns-in-Select-clause-cost : goal.returns-in-Select-clause-cost
returns-in-Select-clause-cost t c =
    select_cost_is _ _ _ _ c.in-Select.is _ _ _ _ (c.weigh-at.ensures.cost ∙ ap (λ e. capped (cost_of e)) c.get.ensures) (c.weigh-at.ensures.width ∙ ap (λ e. capped (width_of e)) c.get.ensures)
    c.len-in-Select.ensures c.select_cost.ensures

pub returns-in-Unary-clause-cost : goal.returns-in-Unary-clause-cost
returns-in-Unary-clause-cost t c =
    unary_cost_is _ _ _ c.in-Unary.is _ _ _ (c.weigh-operand.ensures.cost ∙ ap (λ e. capped (cost_of e)) c.get-in-Unary.ensures)
    (c.weigh-operand.ensures.width ∙ ap (λ e. capped (width_of e)) c.get-in-Unary.ensures) c.unary.ensures.cost

pub returns-in-Unary-clause-width : goal.returns-in-Unary-clause-width
returns-in-Unary-clause-width t c = unary_width_is _ _ _ c.in-Unary.is _ _ (c.weigh-operand.ensures.width ∙ ap (λ e. capped (width_of e)) c.get-in-Unary.ensures) c.unary.ensures.width

pub returns-in-Binary-clause-cost : goal.returns-in-Binary-clause-cost
returns-in-Binary-clause-cost t c =
    binary_cost_is _ _ _ _ c.in-Binary.is _ _ _ _ _ (c.weigh-l.ensures.cost ∙ ap (λ e. capped (cost_of e)) c.get-in-Binary.ensures) (c.weigh-r.ensures.cost ∙ ap (λ e. capped (cost_of e)) c.get-in-Binary-2.ensures)
    (c.weigh-l.ensures.width ∙ ap (λ e. capped (width_of e)) c.get-in-Binary.ensures) (c.weigh-r.ensures.width ∙ ap (λ e. capped (width_of e)) c.get-in-Binary-2.ensures) c.binary.ensures.cost

pub returns-in-Binary-clause-width : goal.returns-in-Binary-clause-width
returns-in-Binary-clause-width t c =
    binary_width_is _ _ _ _ c.in-Binary.is _ _ _ (c.weigh-l.ensures.width ∙ ap (λ e. capped (width_of e)) c.get-in-Binary.ensures)
    (c.weigh-r.ensures.width ∙ ap (λ e. capped (width_of e)) c.get-in-Binary-2.ensures) c.binary.ensures.width

pub returns-in-Choose-clause-cost : goal.returns-in-Choose-clause-cost
returns-in-Choose-clause-cost t c =
    choose_cost_is _ _ _ _ c.in-Choose.is _ _ _ _ _ _ (c.weigh-t.ensures.cost ∙ ap (λ e. capped (cost_of e)) c.get-in-Choose.ensures)
    (c.weigh-y.ensures.cost ∙ ap (λ e. capped (cost_of e)) c.get-in-Choose-2.ensures) (c.weigh-n.ensures.cost ∙ ap (λ e. capped (cost_of e)) c.get-in-Choose-3.ensures)
    (c.weigh-t.ensures.width ∙ ap (λ e. capped (width_of e)) c.get-in-Choose.ensures) (c.weigh-y.ensures.width ∙ ap (λ e. capped (width_of e)) c.get-in-Choose-2.ensures) c.choice.ensures.cost

pub returns-in-Choose-clause-width : goal.returns-in-Choose-clause-width
returns-in-Choose-clause-width t c =
    choose_width_is _ _ _ _ c.in-Choose.is _ _ (c.weigh-y.ensures.width ∙ ap (λ e. capped (width_of e)) c.get-in-Choose-2.ensures) c.choice.ensures.width

pub loop-operand-preserved : goal.loop-operand-preserved
loop-operand-preserved t c =
    sum_more tested _ _ c.operand-item.result _ _ _ c.loop-operand-test.true c.operand-item.is c.loop-operand.invariant
    (tested_is c.operand-item.result _ _ _ c.weigh-next.ensures.cost c.weigh-next.ensures.width c.tested.ensures) c.plus-total.ensures

pub returns-after-loop-operand-clause-cost : goal.returns-after-loop-operand-clause-cost
returns-after-loop-operand-clause-cost t c = row_cost_is _ _ _ _ _ _ _ c.in-Logical.is c.as_slice-operand-items.ensures c.loop-operand-test.false c.loop-operand.invariant
