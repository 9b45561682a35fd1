use Rattle.std.proofs.Common.{drop, map}
use Rattle.token_text.specs.Printing.{with_tokens}
use Rattle.tree_text.specs.Words.{in_a_row, item_words}
use Rattle.tree_text.proofs.Writing.{Rows}
use Rattle.tree_text.proofs.modules.write_items.Given as goal

abbrev pub invariant-loop-i : goal.invariant-loop-i
invariant-loop-i l = Rows item_words l.out (drop l.i-index l.items) (with_tokens l.fn.out (in_a_row (map item_words l.items)))
