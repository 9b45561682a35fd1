use Rattle.std.proofs.Common.{◌≡◌, ◌+◌, ◌-◌, ◌<◌, ◌≤◌, length, drop, get_or, sym, ap, ◌∙◌, subst, arith}
use Rattle.aig_core.proofs.Values.{Extends-trans}
use Rattle.bit_exprs.specs.Updates.{parts_width}
use Rattle.target_blast.proofs.Steps.{as_many, index_long, parts_width-drop, part_more, taken_is, part_done}
use Rattle.target_blast.proofs.targets.put.Goals as goal

pub put_part-requires-clause-index_width : goal.put_part-requires-clause-index_width
put_part-requires-clause-index_width c =
    let parts = c.as_slice-part-items.ensures in
    ap length c.as_slice.ensures
    ∙ index_long c.args.target.now.parts c.args.indices.now c.loop-i.i c.part-item.result c.index-indices-i.result c.requires.widths (subst (λ ps. c.loop-i.i < length ps) parts c.loop-i-test.true)
    (c.part-item.is ∙ ap (λ ps. get_or ps c.loop-i.i c.part-item.result) parts) c.index-indices-i.is

pub loop-i-preserved : goal.loop-i-preserved
loop-i-preserved c =
    let inv = c.loop-i.invariant in
    let put = c.in_ok-put_part.ensures in
    let ps = c.args.target.now.parts in
    let i = c.loop-i.i in
    let p = c.part-item.result in
    let lt : i < length ps = subst (λ qs. i < length qs) c.as_slice-part-items.ensures c.loop-i-test.true in
    let at : p ≡ get_or ps i p = c.part-item.is ∙ ap (λ qs. get_or qs i p) c.as_slice-part-items.ensures in
    let low : c.loop-i.low - c.part_width-width.result ≡ parts_width (drop (i + 1) ps) = omega (arith, inv.low, parts_width-drop ps i p lt at, c.part_width-width.ensures) in
    record {
      low = low;
      within = omega (arith, inv.within);
      rest = part_more ps c.args.indices.now c.args.value.now i p c.as_slice.result.now _ c.loop-i.aig c.put_part.new.aig c.loop-i.targets c.put_part.new.targets _ lt
          (omega (arith, lt, as_many ps c.args.indices.now c.requires.widths)) at (subst (λ w. w ≡ get_or c.args.indices.now i w) (sym c.as_slice.ensures) c.index-indices-i.is)
          (taken_is ps c.args.indices.now c.args.value.now _ _ _ _ low c.part_width-width.ensures) put.exact inv.rest;
      exist = put.exist;
      long = put.long ∙ inv.long;
      kept = Extends-trans c.args.aig.now c.loop-i.aig c.put_part.new.aig inv.kept put.kept;
    }

pub returns-clause-exact : goal.returns-clause-exact
returns-clause-exact c =
    part_done c.args.target.now.parts c.args.indices.now c.args.value.now c.loop-i.i c.loop-i.aig c.loop-i.targets _ (subst (λ ps. length ps ≤ c.loop-i.i) c.as_slice-part-items.ensures c.loop-i-test.false) c.loop-i.invariant.rest
