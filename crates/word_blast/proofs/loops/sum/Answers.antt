use Rattle.std.proofs.Common.{ℕ, List, ap, sym, ◌∙◌, refl, arith}
use Rattle.aig_core.specs.Graph.{Graph}
use Rattle.aig_core.proofs.Values.{Extends-trans}
use Rattle.word_blast.proofs.Combinators.{joined, joined_all}
use Rattle.word_blast.proofs.SumLaws.{sum_from-more, sum_from-done, sum_exist}
use Rattle.word_blast.proofs.loops.sum.Goals as goal

pub loop-i-preserved : goal.loop-i-preserved
loop-i-preserved c =
    let e = c.in_ok-bit.ensures in
    let step = sum_from-more c.loop-i.aig c.full.new.aig c.loop-i.carried c.in_ok-bit.bit c.in_ok-bit.next _ _ c.args.a.now c.args.b.now c.loop-i.i (omega arith) (omega arith) refl refl e.graph e.sum e.carry in
    record {
      graph = sym (ap (λ (p : Graph × List ℕ). p.0) step) ∙ c.loop-i.invariant.graph;
      literals = joined _ _ _ _ _ _ c.in_ok-push.ensures.items (ap (λ (p : Graph × List ℕ). p.1) step) c.loop-i.invariant.literals;
      kept = Extends-trans _ _ _ c.loop-i.invariant.kept e.kept;
      carried = e.carry_exists;
    }

pub returns-clause-exact : goal.returns-clause-exact
returns-clause-exact c =
    let done = sum_from-done c.loop-i.aig c.loop-i.carried c.args.a.now c.args.b.now c.loop-i.i (omega arith) in
    let graph = sym (ap (λ (p : Graph × List ℕ). p.0) done) ∙ c.loop-i.invariant.graph in
    let literals = joined_all _ _ _ (ap (λ (p : Graph × List ℕ). p.1) done) c.loop-i.invariant.literals in
    λ j. (graph j, literals j)

pub returns-clause-exist : goal.returns-clause-exist
returns-clause-exist c =
    (sum_exist c.args.carry c.args.aig.now c.loop-i.aig c.args.a.now c.args.b.now c.loop-i.bits.items c.allocator.ensures.well_formed c.requires.carry_exists c.requires.a_exists c.requires.b_exists c.requires.widths (returns-clause-exact c)).0

pub returns-clause-width : goal.returns-clause-width
returns-clause-width c =
    (sum_exist c.args.carry c.args.aig.now c.loop-i.aig c.args.a.now c.args.b.now c.loop-i.bits.items c.allocator.ensures.well_formed c.requires.carry_exists c.requires.a_exists c.requires.b_exists c.requires.widths (returns-clause-exact c)).1
