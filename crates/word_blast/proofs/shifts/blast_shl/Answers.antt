use Rattle.word_blast.proofs.Combinators.{recursion, word_at}
use Rattle.word_blast.proofs.ShiftLaws.{shl_gives}
use Rattle.word_blast.proofs.shifts.blast_shl.Goals as goal

pub returns-clause-meaning : goal.returns-clause-meaning
returns-clause-meaning c =
    let e = c.in_ok-bits.ensures in
    word_at e.exact (shl_gives c.args.aig.now c.args.a.now c.args.by.now e.was_well_formed (recursion c.args.aig.now c.args.a.now c.requires.a_exists) (recursion c.args.aig.now c.args.by.now c.requires.by_exists))
