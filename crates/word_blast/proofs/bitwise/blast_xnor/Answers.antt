use Rattle.std.proofs.Common.{ℕ, List, map, ap, ◌∙◌}
use Rattle.aig_core.specs.Graph.{Graph, negation}
use Rattle.word_blast.proofs.Combinators.{recursion, word_at}
use Rattle.word_blast.proofs.OperatorLaws.{xnor_word_gives}
use Rattle.word_blast.proofs.bitwise.blast_xnor.Goals as goal

pub returns-clause-meaning : goal.returns-clause-meaning
returns-clause-meaning c =
    let d = c.in_ok-differing.ensures in
    let literals = c.in_ok-bits.ensures.literals ∙ ap (map negation) c.deref.ensures.value in
    word_at ((λ j. (c.each.new.aig, literals j)) ∙ ap (λ (p : Graph × List ℕ). (p.0, map negation p.1)) d.exact)
    (xnor_word_gives c.args.aig.now c.args.a.now c.args.b.now d.was_well_formed (recursion c.args.aig.now c.args.a.now c.requires.a_exists) (recursion c.args.aig.now c.args.b.now c.requires.b_exists) c.requires.widths)
