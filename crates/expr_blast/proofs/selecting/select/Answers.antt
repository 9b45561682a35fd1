use Rattle.std.proofs.Common.{ℕ, List, sym, ap, ◌∙◌}
use Rattle.aig_core.specs.Graph.{Graph}
use Rattle.aig_core.proofs.Values.{Extends-trans}
use Rattle.word_blast.proofs.Combinators.{joined, joined_all, recursion}
use Rattle.expr_blast.proofs.Growing.{made_exist}
use Rattle.expr_blast.proofs.Loops.{select_more, select_done}
use Rattle.expr_blast.proofs.Selects.{select_gives}
use Rattle.expr_blast.proofs.selecting.select.Goals as goal

pub loop-k-preserved : goal.loop-k-preserved
loop-k-preserved c =
    let step = select_more c.args.window c.args.signed c.args.index.now c.args.vector.now c.loop-k.aig c.selected_bit.new.aig c.in_ok-bit.bit c.loop-k.k c.args.window.count c.loop-k-test.true c.in_ok-bit.ensures.exact in
    record {
      graph = sym (ap (λ (p : Graph × List ℕ). p.0) step) ∙ c.loop-k.invariant.graph;
      literals = joined _ _ _ _ _ _ c.in_ok-push.ensures.items (ap (λ (p : Graph × List ℕ). p.1) step) c.loop-k.invariant.literals;
      kept = Extends-trans _ _ _ c.loop-k.invariant.kept c.selected_bit.ensures.kept;
    }

pub returns-clause-exact : goal.returns-clause-exact
returns-clause-exact c =
    let done = select_done c.args.window c.args.signed c.args.index.now c.args.vector.now c.loop-k.aig c.loop-k.k c.args.window.count c.loop-k-test.false in
    let graph = sym (ap (λ (p : Graph × List ℕ). p.0) done) ∙ c.loop-k.invariant.graph in
    let literals = joined_all _ _ _ (ap (λ (p : Graph × List ℕ). p.1) done) c.loop-k.invariant.literals in
    λ j. (graph j, literals j)

pub returns-clause-exist : goal.returns-clause-exist
returns-clause-exist c =
    let g = c.args.aig.now in
    (made_exist (returns-clause-exact c) (select_gives c.args.window c.args.signed c.args.index.now c.requires.wide.0 c.args.vector.now g c.allocator.ensures.well_formed (recursion g c.args.index.now c.requires.index_exists) (recursion g c.args.vector.now c.requires.vector_exists))).0

pub returns-clause-width : goal.returns-clause-width
returns-clause-width c =
    let g = c.args.aig.now in
    (made_exist (returns-clause-exact c) (select_gives c.args.window c.args.signed c.args.index.now c.requires.wide.0 c.args.vector.now g c.allocator.ensures.well_formed (recursion g c.args.index.now c.requires.index_exists) (recursion g c.args.vector.now c.requires.vector_exists))).1
