use Rattle.word_blast.proofs.Combinators.{recursion, word_at}
use Rattle.word_blast.proofs.OperatorLaws.{not_gives}
use Rattle.word_blast.proofs.bitwise.blast_not.Goals as goal

pub returns-clause-meaning : goal.returns-clause-meaning
returns-clause-meaning c =
    let e = c.in_ok-bits.ensures in
    word_at (λ j. (c.args.aig.now, e.literals j)) (not_gives c.args.aig.now c.args.a.now e.well_formed (recursion c.args.aig.now c.args.a.now c.requires))
