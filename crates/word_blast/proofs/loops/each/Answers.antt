use Rattle.std.proofs.Common.{ℕ, List, get_or, ap, sym, ◌∙◌, arith}
use Rattle.std.specs.List.{zip}
use Rattle.std.proofs.lemmas.Slice.Zip.{length-zip, get_or-zip}
use Rattle.aig_core.specs.Graph.{Graph}
use Rattle.aig_core.proofs.Values.{Extends-trans}
use Rattle.word_blast.specs.Steps.{gate_of}
use Rattle.word_blast.specs.Words.{at_pair}
use Rattle.word_blast.proofs.Combinators.{joined, joined_all, each_of-more, each_of-done}
use Rattle.word_blast.proofs.GateLaws.{each_exist}
use Rattle.word_blast.proofs.loops.each.Goals as goal

pub loop-i-preserved : goal.loop-i-preserved
loop-i-preserved c =
    let e = c.in_ok-bit.ensures in
    let a = c.args.a.now in
    let b = c.args.b.now in
    let i = c.loop-i.i in
    let step = each_of-more (at_pair (gate_of c.args.op)) c.loop-i.aig c.gate.new.aig c.in_ok-bit.bit (get_or a i 0, get_or b i 0) (0, 0) (zip a b) i (omega (arith, length-zip a b))
    (sym (get_or-zip a b i (0, 0) (omega arith) (omega arith))) e.graph e.literal in
    record {
      graph = sym (ap (λ (p : Graph × List ℕ). p.0) step) ∙ c.loop-i.invariant.graph;
      literals = joined _ _ _ _ _ _ c.in_ok-push.ensures.items (ap (λ (p : Graph × List ℕ). p.1) step) c.loop-i.invariant.literals;
      kept = Extends-trans _ _ _ c.loop-i.invariant.kept e.kept;
    }

pub returns-clause-exact : goal.returns-clause-exact
returns-clause-exact c =
    let done = each_of-done (at_pair (gate_of c.args.op)) c.loop-i.aig (zip c.args.a.now c.args.b.now) c.loop-i.i (omega (arith, length-zip c.args.a.now c.args.b.now)) in
    let graph = sym (ap (λ (p : Graph × List ℕ). p.0) done) ∙ c.loop-i.invariant.graph in
    let literals = joined_all _ _ _ (ap (λ (p : Graph × List ℕ). p.1) done) c.loop-i.invariant.literals in
    λ j. (graph j, literals j)

pub returns-clause-exist : goal.returns-clause-exist
returns-clause-exist c =
    (each_exist c.args.op c.args.aig.now c.loop-i.aig c.args.a.now c.args.b.now c.loop-i.bits.items c.allocator.ensures.well_formed c.requires.a_exists c.requires.b_exists c.requires.widths (returns-clause-exact c)).0

pub returns-clause-width : goal.returns-clause-width
returns-clause-width c =
    (each_exist c.args.op c.args.aig.now c.loop-i.aig c.args.a.now c.args.b.now c.loop-i.bits.items c.allocator.ensures.well_formed c.requires.a_exists c.requires.b_exists c.requires.widths (returns-clause-exact c)).1
