use Rattle.std.proofs.Common.{◌||◌, ap, sym, ◌∙◌}
use Rattle.bit_exprs.specs.declared.forms.Expr.{Expr}
use Rattle.bit_exprs.specs.Named.{among, reads}
use Rattle.bit_exprs.proofs.Naming.{reads_select, reads_unary, reads_binary, reads_choose, reads_found, reads_none}
use Rattle.bit_exprs.proofs.names.+reads.Goals as goal

pub returns-then-reads : goal.returns-then-reads
returns-then-reads t c =
    reads_found _ _ _ _ c.in-Logical.is c.args.bit _ _ c.operand-item.result c.as_slice-operand-items.ensures c.loop-operand-test.true c.operand-item.is (sym c.reads-in-loop-operand.ensures ∙ c.if-reads.true) c.loop-operand.invariant

pub returns-in-Select : goal.returns-in-Select
returns-in-Select t c =
    reads_select _ _ _ _ c.in-Select.is c.args.bit _ _ _ (c.is_among-in-Select.ensures ∙ ap (λ bits. among bits c.args.bit) c.as_slice-in-Select.ensures) (c.reads-i.ensures ∙ ap (λ (e : Expr). reads e c.args.bit) c.get.ensures) c.either.ensures

pub returns-in-Unary : goal.returns-in-Unary
returns-in-Unary t c = reads_unary _ _ _ c.in-Unary.is c.args.bit _ (c.reads.ensures ∙ ap (λ (e : Expr). reads e c.args.bit) c.get-in-Unary.ensures)

pub returns-in-Binary : goal.returns-in-Binary
returns-in-Binary t c =
    reads_binary _ _ _ _ c.in-Binary.is c.args.bit _ _ _ (c.reads-l.ensures ∙ ap (λ (e : Expr). reads e c.args.bit) c.get-in-Binary.ensures)
    (c.reads-r.ensures ∙ ap (λ (e : Expr). reads e c.args.bit) c.get-in-Binary-2.ensures) c.either-in-Binary.ensures

pub returns-in-Choose : goal.returns-in-Choose
returns-in-Choose t c =
    reads_choose _ _ _ _ c.in-Choose.is c.args.bit _ _ _ _ (c.reads-c.ensures ∙ ap (λ (e : Expr). reads e c.args.bit) c.get-in-Choose.ensures)
    (c.reads-y.ensures ∙ ap (λ (e : Expr). reads e c.args.bit) c.get-in-Choose-2.ensures) (c.reads-n.ensures ∙ ap (λ (e : Expr). reads e c.args.bit) c.get-in-Choose-3.ensures)
    (c.either-in-Choose-2.ensures ∙ ap (λ r. c.reads-c.result || r) c.either-in-Choose.ensures)

pub returns-after-loop-operand : goal.returns-after-loop-operand
returns-after-loop-operand t c = reads_none _ _ _ _ c.in-Logical.is c.args.bit _ _ c.as_slice-operand-items.ensures c.loop-operand-test.false c.loop-operand.invariant
