use Rattle.std.proofs.Common.{map}
use Rattle.token_text.specs.Printing.{with_tokens}
use Rattle.tree_text.specs.Words.{in_a_row, module_words}
use Rattle.tree_text.proofs.Writing.{row_more, row_done}
use Rattle.tree_text.proofs.modules.write_modules.Goals as goal

pub loop-m-preserved : goal.loop-m-preserved
loop-m-preserved c =
    row_more module_words c.loop-m.out c.write_module.new.out (with_tokens c.args.out.now (in_a_row (map module_words c.args.modules.now))) c.args.modules.now c.loop-m.m-index c.m-item.result
    c.m-item.is c.loop-m-test.true c.in_ok-write_module.ensures c.loop-m.invariant

pub returns : goal.returns
returns c =
    row_done module_words c.loop-m.out (with_tokens c.args.out.now (in_a_row (map module_words c.args.modules.now))) c.args.modules.now c.loop-m.m-index c.loop-m-test.false c.loop-m.invariant
