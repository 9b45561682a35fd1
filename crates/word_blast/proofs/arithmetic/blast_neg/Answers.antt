use Rattle.std.proofs.Common.{◌∙◌}
use Rattle.word_blast.specs.Words.{sum_from}
use Rattle.word_blast.proofs.Combinators.{recursion, word_at}
use Rattle.word_blast.proofs.OperatorLaws.{neg_gives}
use Rattle.word_blast.proofs.arithmetic.blast_neg.Goals as goal

pub returns-clause-meaning : goal.returns-clause-meaning
returns-clause-meaning c =
    let e = c.in_ok-bits.ensures in
    word_at (e.exact ∙ (λ j. sum_from c.args.aig.now 1 ((c.deref.ensures.value ∙ c.in_ok-zeros.ensures) j) ((c.deref-2.ensures.value ∙ c.in_ok-turned.ensures.literals) j)))
    (neg_gives c.args.aig.now c.args.a.now e.was_well_formed (recursion c.args.aig.now c.args.a.now c.requires))
