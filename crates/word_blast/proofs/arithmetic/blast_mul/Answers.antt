use Rattle.std.proofs.Common.{◌≡◌, ◌+◌, ℕ, List, drop, get_or, length, replicate, ap, sym, ◌∙◌, refl, arith}
use Rattle.aig_core.specs.Graph.{and_of}
use Rattle.aig_core.proofs.Values.{Extends-trans}
use Rattle.word_blast.specs.Words.{each_pair, partial_product, sum_from, products_from}
use Rattle.word_blast.proofs.Combinators.{All-literals-Extends, recursion, word_at}
use Rattle.word_blast.proofs.ProductLaws.{products_from-more, products_from-done, mul_gives, moved_exist, moved_width}
use Rattle.word_blast.proofs.arithmetic.blast_mul.Goals as goal

pub loop-i-preserved : goal.loop-i-preserved
loop-i-preserved c =
    let i = c.loop-i.invariant in
    let row = c.in_ok-row.ensures in
    let sum = c.in_ok-product-2.ensures in
    let y : ℕ = get_or c.args.b.now c.loop-i.i 0 in
    let row_is : (c.each.new.aig, c.in_ok-row.row.items) ≡ partial_product c.loop-i.aig y c.loop-i.shifted.items
    = row.exact ∙ (λ j. each_pair and_of c.loop-i.aig (c.deref.ensures.value j) ((c.deref-in-loop-i.ensures.value ∙ c.in_ok-mask.ensures ∙ ap (λ (n : ℕ). replicate n y) (sym i.shifted_width)) j)) in
    let sum_is : (c.sum.new.aig, c.in_ok-product-2.product.items) ≡ sum_from c.each.new.aig 0 c.loop-i.product.items c.in_ok-row.row.items
    = sum.exact ∙ (λ j. sum_from c.each.new.aig 0 (c.deref-in-loop-i-2.ensures.value j) (c.deref-in-loop-i-3.ensures.value j)) in
    let up = Extends-trans c.loop-i.aig c.each.new.aig c.sum.new.aig row.kept sum.kept in
    let step = products_from-more c.loop-i.aig c.each.new.aig c.sum.new.aig c.loop-i.product.items c.in_ok-row.row.items c.in_ok-product-2.product.items c.loop-i.shifted.items y c.args.b.now c.loop-i.i (omega arith) refl row_is sum_is in
    record {
      rest = ap (λ (l : List ℕ). products_from c.sum.new.aig c.in_ok-product-2.product.items l (drop (c.loop-i.i + 1) c.args.b.now)) c.in_ok-move_up.ensures ∙ sym step ∙ i.rest;
      kept = Extends-trans c.args.aig.now c.loop-i.aig c.sum.new.aig i.kept up;
      product_exists = sum.exist;
      shifted_exists = moved_exist c.sum.new.aig c.loop-i.shifted.items c.move_up.new.bits.items c.in_ok-move_up.ensures (All-literals-Extends c.loop-i.aig c.sum.new.aig c.loop-i.shifted.items up i.shifted_exists);
      product_width = sum.width ∙ ap length c.deref-in-loop-i-2.ensures.value ∙ i.product_width;
      shifted_width = moved_width c.loop-i.shifted.items c.move_up.new.bits.items c.in_ok-move_up.ensures ∙ i.shifted_width;
    }

pub returns-clause-exact : goal.returns-clause-exact
returns-clause-exact c = sym (products_from-done c.loop-i.aig c.loop-i.product.items c.loop-i.shifted.items c.args.b.now c.loop-i.i (omega arith)) ∙ c.loop-i.invariant.rest

pub returns-clause-meaning : goal.returns-clause-meaning
returns-clause-meaning c =
    word_at (returns-clause-exact c)
    (mul_gives c.args.aig.now c.args.a.now c.args.b.now c.allocator-alloc.ensures.well_formed (recursion c.args.aig.now c.args.a.now c.requires.a_exists) (recursion c.args.aig.now c.args.b.now c.requires.b_exists))

pub returns-clause-width : goal.returns-clause-width
returns-clause-width c = c.loop-i.invariant.product_width
