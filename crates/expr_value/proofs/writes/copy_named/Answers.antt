use Rattle.std.proofs.Common.{refl, sym, ap, ◌∙◌}
use Rattle.std.specs.Prelude.{flat_map}
use Rattle.bit_exprs.specs.Named.{part_bits}
use Rattle.bit_exprs.specs.Values.{bit_at}
use Rattle.expr_value.proofs.Copies.{copied, copy_part, copy_last}
use Rattle.expr_value.proofs.Writing.{bits_formed}
use Rattle.expr_value.proofs.writes.copy_named.Goals as goal

pub copy-requires-clause-from : goal.copy-requires-clause-from
copy-requires-clause-from c =
    bits_formed c.args.target.now c.as_slice-part-items.result.now c.loop-part.part-index c.part-item.result c.named.result.now _ _ c.requires.formed c.as_slice-part-items.ensures c.loop-part-test.true c.part-item.is c.named.ensures refl

pub copy-requires-clause-to : goal.copy-requires-clause-to
copy-requires-clause-to c =
    bits_formed c.args.target.now c.as_slice-part-items.result.now c.loop-part.part-index c.part-item.result c.named.result.now _ _ c.requires.formed c.as_slice-part-items.ensures c.loop-part-test.true c.part-item.is c.named.ensures
    (sym (c.loop-part.auto.to ∙ c.requires.long))

pub loop-part-preserved : goal.loop-part-preserved
loop-part-preserved c =
    copy_part (bit_at c.args.from.now) c.as_slice-part-items.result.now c.loop-part.part-index c.part-item.result c.named.result.now c.loop-part.to _ _ c.loop-part-test.true c.part-item.is c.named.ensures c.copy.ensures c.loop-part.invariant

pub returns : goal.returns
returns c =
    copy_last (bit_at c.args.from.now) c.as_slice-part-items.result.now c.loop-part.part-index c.loop-part.to _ c.loop-part-test.false c.loop-part.invariant
    ∙ ap (λ ps. copied (bit_at c.args.from.now) (flat_map part_bits ps) c.args.to.now) c.as_slice-part-items.ensures
