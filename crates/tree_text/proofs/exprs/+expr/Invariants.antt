use Rattle.std.proofs.Common.{false, ◌∷◌, [], drop, map}
use Rattle.token_text.specs.Printing.{with_tokens}
use Rattle.tree_text.specs.Words.{in_a_row, each_behind, between, expr_words, operand_words}
use Rattle.tree_text.proofs.Writing.{Rows, Separated}
use Rattle.tree_text.proofs.exprs.+expr.Given as goal

abbrev pub invariant-write_behind_commas-loop-e : goal.invariant-write_behind_commas-loop-e
invariant-write_behind_commas-loop-e l = Separated expr_words (44 ∷ []) false l.out (drop l.e-index l.exprs) (with_tokens l.fn.out (each_behind (44 ∷ []) (map expr_words l.exprs)))

abbrev pub invariant-write_commas-loop-e : goal.invariant-write_commas-loop-e
invariant-write_commas-loop-e l = Separated expr_words (44 ∷ []) l.is_first l.out (drop l.e-index l.exprs) (with_tokens l.fn.out (between (44 ∷ []) (map expr_words l.exprs)))

abbrev pub invariant-write_operands-loop-o : goal.invariant-write_operands-loop-o
invariant-write_operands-loop-o l = Rows operand_words l.out (drop l.o-index l.operands) (with_tokens l.fn.out (in_a_row (map operand_words l.operands)))
