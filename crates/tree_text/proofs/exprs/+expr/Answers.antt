use Rattle.std.proofs.Common.{false, ◌∷◌, [], map, sym, ◌∙◌, ap}
use Rattle.token_text.specs.Printing.{with_tokens}
use Rattle.tree_text.specs.Words.{in_a_row, each_behind, between, expr_words, operand_words}
use Rattle.tree_text.proofs.Writing.{with_one, row_more, row_done, separated_more, separated_done}
use Rattle.tree_text.proofs.WordEquations.{operator_words}
use Rattle.tree_text.proofs.exprs.+expr.Goals as goal

pub write_behind_commas-loop-e-preserved : goal.write_behind_commas-loop-e-preserved
write_behind_commas-loop-e-preserved t c =
    separated_more expr_words (44 ∷ []) false c.loop-e.out c.push.new.self c.write_expr.new.out (with_tokens c.args.out.now (each_behind (44 ∷ []) (map expr_words c.args.exprs.now))) c.args.exprs.now c.loop-e.e-index c.e-item.result
    c.e-item.is c.loop-e-test.true (c.in_ok-push.ensures ∙ sym (with_one c.loop-e.out (44 ∷ []))) c.in_ok-write_expr.ensures c.loop-e.invariant

pub write_behind_commas-returns : goal.write_behind_commas-returns
write_behind_commas-returns t c =
    separated_done expr_words (44 ∷ []) false c.loop-e.out (with_tokens c.args.out.now (each_behind (44 ∷ []) (map expr_words c.args.exprs.now))) c.args.exprs.now c.loop-e.e-index c.loop-e-test.false c.loop-e.invariant

pub write_commas-loop-e-preserved : goal.write_commas-loop-e-preserved
write_commas-loop-e-preserved t c =
    separated_more expr_words (44 ∷ []) c.loop-e.is_first c.loop-e.out c.write_separator.new.out c.write_expr.new.out (with_tokens c.args.out.now (between (44 ∷ []) (map expr_words c.args.exprs.now))) c.args.exprs.now c.loop-e.e-index c.e-item.result
    c.e-item.is c.loop-e-test.true c.in_ok-write_separator.ensures c.in_ok-write_expr.ensures c.loop-e.invariant

pub write_commas-returns : goal.write_commas-returns
write_commas-returns t c =
    separated_done expr_words (44 ∷ []) c.loop-e.is_first c.loop-e.out (with_tokens c.args.out.now (between (44 ∷ []) (map expr_words c.args.exprs.now))) c.args.exprs.now c.loop-e.e-index c.loop-e-test.false c.loop-e.invariant

pub write_operands-loop-o-preserved : goal.write_operands-loop-o-preserved
write_operands-loop-o-preserved t c =
    row_more operand_words c.loop-o.out c.write_behind.new.out (with_tokens c.args.out.now (in_a_row (map operand_words c.args.operands.now))) c.args.operands.now c.loop-o.o-index c.o-item.result
    c.o-item.is c.loop-o-test.true
    (c.in_ok-write_behind.ensures ∙ ap (λ z. with_tokens c.loop-o.out (z ∷ expr_words c.o-item.result.value)) c.binary_text.ensures ∙ ap (λ z. with_tokens c.loop-o.out z) (sym (operator_words c.o-item.result)))
    c.loop-o.invariant

pub write_operands-returns : goal.write_operands-returns
write_operands-returns t c =
    row_done operand_words c.loop-o.out (with_tokens c.args.out.now (in_a_row (map operand_words c.args.operands.now))) c.args.operands.now c.loop-o.o-index c.loop-o-test.false c.loop-o.invariant
