use Rattle.std.proofs.Common.{ap, ◌∙◌}
use Rattle.word_blast.specs.Words.{sum_from}
use Rattle.word_blast.proofs.Combinators.{recursion, word_at}
use Rattle.word_blast.proofs.OperatorLaws.{sub_gives}
use Rattle.word_blast.proofs.arithmetic.blast_sub.Goals as goal

pub returns-clause-meaning : goal.returns-clause-meaning
returns-clause-meaning c =
    let e = c.in_ok-bits.ensures in
    word_at (e.exact ∙ ap (sum_from c.args.aig.now 1 c.args.a.now) (c.deref.ensures.value ∙ c.in_ok-turned.ensures.literals))
    (sub_gives c.args.aig.now c.args.a.now c.args.b.now e.was_well_formed (recursion c.args.aig.now c.args.a.now c.requires.a_exists) (recursion c.args.aig.now c.args.b.now c.requires.b_exists) c.requires.widths)
