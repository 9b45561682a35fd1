use Rattle.std.proofs.Common.{ℕ, List, ap, ◌∙◌}
use Rattle.aig_core.specs.Graph.{Graph}
use Rattle.word_blast.specs.Words.{circuit_any}
use Rattle.word_blast.proofs.Combinators.{recursion}
use Rattle.expr_blast.proofs.ExprLaws.{test_gives}
use Rattle.expr_blast.proofs.Growing.{gives_at}
use Rattle.expr_blast.proofs.words.test.Goals as goal

pub returns-clause-meaning : goal.returns-clause-meaning
returns-clause-meaning c =
    gives_at (c.in_ok-literal.ensures.exact ∙ ap (circuit_any c.made.new.aig) c.deref.ensures.value ∙ ap (λ (p : Graph × List ℕ). circuit_any p.0 p.1) c.in_ok-literals.ensures.exact)
    (test_gives c.args.expr.now c.args.aig.now c.args.bits.now c.requires.formed c.allocator-alloc.ensures.well_formed (recursion c.args.aig.now c.args.bits.now c.requires.bits_exist))
