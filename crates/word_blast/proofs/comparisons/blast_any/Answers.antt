use Rattle.std.proofs.Common.{ap, ◌∙◌}
use Rattle.word_blast.specs.Words.{one_bit}
use Rattle.word_blast.proofs.Combinators.{recursion, word_at}
use Rattle.word_blast.proofs.OperatorLaws.{any_gives}
use Rattle.word_blast.proofs.comparisons.blast_any.Goals as goal

pub returns-clause-meaning : goal.returns-clause-meaning
returns-clause-meaning c =
    let e = c.in_ok-literal.ensures in
    word_at ((λ j. (c.fold.new.aig, c.in_ok-bits.ensures j)) ∙ ap one_bit e.exact) (any_gives c.args.aig.now c.args.a.now e.was_well_formed (recursion c.args.aig.now c.args.a.now c.requires))
