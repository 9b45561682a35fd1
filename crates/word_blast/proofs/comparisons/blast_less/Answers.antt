use Rattle.std.proofs.Common.{ℕ, [], ◌∷◌, ap, ◌∙◌}
use Rattle.aig_core.specs.Graph.{Graph, negation}
use Rattle.word_blast.specs.Words.{one_bit}
use Rattle.word_blast.proofs.Combinators.{recursion, word_at}
use Rattle.word_blast.proofs.OperatorLaws.{less_gives}
use Rattle.word_blast.proofs.comparisons.blast_less.Goals as goal

pub returns-clause-meaning : goal.returns-clause-meaning
returns-clause-meaning c =
    let e = c.in_ok-literal.ensures in
    let literals = c.in_ok-bits.ensures ∙ ap (λ (x : ℕ). x ∷ []) c.negated.ensures in
    word_at ((λ j. (c.not_below.new.aig, literals j)) ∙ ap (λ (p : Graph × ℕ). one_bit (p.0, negation p.1)) e.exact)
    (less_gives c.args.aig.now c.args.a.now c.args.b.now e.was_well_formed (recursion c.args.aig.now c.args.a.now c.requires.a_exists) (recursion c.args.aig.now c.args.b.now c.requires.b_exists) c.requires.widths c.requires.some c.args.signed)
