use Rattle.std.proofs.Common.{◌-◌, arith, ap, ◌∙◌}
use Rattle.bit_exprs.specs.Updates.{parts_updates, perform}
use Rattle.expr_value.proofs.Writing.{width_more, parts_more, parts_done, part_formed, part_some}
use Rattle.expr_value.proofs.writes.write.Goals as goal

pub write_part-requires-clause-formed : goal.write_part-requires-clause-formed
write_part-requires-clause-formed c =
    part_formed c.args.target.now c.as_slice-part-items.result.now c.loop-part.part-index c.part-item.result _ c.requires.formed c.as_slice-part-items.ensures c.loop-part-test.true c.part-item.is

pub overflow_shr-value : goal.overflow_shr-value
overflow_shr-value c =
    omega (arith, c.part_places-left.ensures, part_some c.args.target.now c.as_slice-part-items.result.now c.loop-part.part-index c.part-item.result _ c.requires.formed c.as_slice-part-items.ensures c.loop-part-test.true c.part-item.is, c.loop-part.invariant.most)

pub loop-part-preserved : goal.loop-part-preserved
loop-part-preserved c = record {
  most = omega (arith, c.loop-part.invariant.most);
  left = omega (arith, c.loop-part.invariant.left, c.part_places-left.ensures, width_more c.as_slice-part-items.result.now c.loop-part.part-index c.part-item.result c.loop-part-test.true c.part-item.is);
  so_far =
      parts_more c.as_slice-part-items.result.now c.loop-part.part-index c.part-item.result c.loop-part-test.true c.part-item.is c.args.value.bits (c.loop-part.left - c.part_places-left.result) c.args.values.now c.loop-part.out _ _
      (omega (arith, c.loop-part.invariant.left, c.part_places-left.ensures, width_more c.as_slice-part-items.result.now c.loop-part.part-index c.part-item.result c.loop-part-test.true c.part-item.is))
      c.write_part.ensures c.loop-part.invariant.so_far;
}

pub returns : goal.returns
returns c =
    parts_done c.as_slice-part-items.result.now c.loop-part.part-index c.args.value.bits c.args.values.now c.loop-part.out _ c.loop-part-test.false c.loop-part.invariant.so_far
    ∙ ap (λ ps. perform (parts_updates ps c.args.value.bits c.args.values.now) c.args.out.now) c.as_slice-part-items.ensures
