use Rattle.word_blast.proofs.Combinators.{recursion, word_at}
use Rattle.word_blast.proofs.OperatorLaws.{add_gives}
use Rattle.word_blast.proofs.arithmetic.blast_add.Goals as goal

pub returns-clause-meaning : goal.returns-clause-meaning
returns-clause-meaning c =
    let e = c.in_ok-bits.ensures in
    word_at e.exact (add_gives c.args.aig.now c.args.a.now c.args.b.now e.was_well_formed (recursion c.args.aig.now c.args.a.now c.requires.a_exists) (recursion c.args.aig.now c.args.b.now c.requires.b_exists) c.requires.widths)
