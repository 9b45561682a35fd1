use Rattle.std.proofs.Common.{map, ap, ◌∙◌}
use Rattle.token_text.specs.Printing.{Written, nothing, with_tokens}
use Rattle.token_text.proofs.Writing.{written_is}
use Rattle.tree_text.specs.Words.{in_a_row, module_words, words_of}
use Rattle.tree_text.proofs.tree.written.Goals as goal

pub returns : goal.returns
unfolding words_of
returns c =
    c.into_bytes.ensures
    ∙ ap (λ (z : Written). z.bytes) (c.in_ok-write_modules.ensures
    ∙ ap (λ z. with_tokens z (in_a_row (map module_words c.as_slice.result.now))) c.new-out.ensures
    ∙ ap (λ ms. with_tokens nothing (in_a_row (map module_words ms))) c.as_slice.ensures)
    ∙ written_is nothing (words_of c.args.tree.now)
