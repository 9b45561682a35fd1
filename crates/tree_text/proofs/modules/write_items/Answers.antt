use Rattle.std.proofs.Common.{map}
use Rattle.token_text.specs.Printing.{with_tokens}
use Rattle.tree_text.specs.Words.{in_a_row, item_words}
use Rattle.tree_text.proofs.Writing.{row_more, row_done}
use Rattle.tree_text.proofs.modules.write_items.Goals as goal

pub loop-i-preserved : goal.loop-i-preserved
loop-i-preserved c =
    row_more item_words c.loop-i.out c.write_item.new.out (with_tokens c.args.out.now (in_a_row (map item_words c.args.items.now))) c.args.items.now c.loop-i.i-index c.i-item.result
    c.i-item.is c.loop-i-test.true c.in_ok-write_item.ensures c.loop-i.invariant

pub returns : goal.returns
returns c =
    row_done item_words c.loop-i.out (with_tokens c.args.out.now (in_a_row (map item_words c.args.items.now))) c.args.items.now c.loop-i.i-index c.loop-i-test.false c.loop-i.invariant
