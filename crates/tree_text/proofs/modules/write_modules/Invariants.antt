use Rattle.std.proofs.Common.{drop, map}
use Rattle.token_text.specs.Printing.{with_tokens}
use Rattle.tree_text.specs.Words.{in_a_row, module_words}
use Rattle.tree_text.proofs.Writing.{Rows}
use Rattle.tree_text.proofs.modules.write_modules.Given as goal

abbrev pub invariant-loop-m : goal.invariant-loop-m
invariant-loop-m l = Rows module_words l.out (drop l.m-index l.modules) (with_tokens l.fn.out (in_a_row (map module_words l.modules)))
