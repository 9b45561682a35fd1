use Rattle.word_blast.proofs.Combinators.{recursion, word_at}
use Rattle.expr_blast.proofs.ExprLaws.{word_gives}
use Rattle.expr_blast.proofs.words.word.Goals as goal

pub returns-clause-meaning : goal.returns-clause-meaning
returns-clause-meaning c =
    word_at c.in_ok-literals.ensures.exact (word_gives c.args.expr.now c.args.aig.now c.args.bits.now c.requires.formed c.allocator-alloc.ensures.well_formed (recursion c.args.aig.now c.args.bits.now c.requires.bits_exist))
