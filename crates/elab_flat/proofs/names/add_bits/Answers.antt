use Rattle.std.proofs.Common.{◌++◌, arith}
use Rattle.bit_exprs.specs.Values.{listed}
use Rattle.expr_elab.specs.Vectors.{vector_width}
use Rattle.expr_elab.proofs.Listing.{listed_more}
use Rattle.elab_flat.specs.Bits.{info_of}
use Rattle.elab_flat.proofs.names.add_bits.Goals as goal

pub loop-place-preserved : goal.loop-place-preserved
loop-place-preserved c =
    let make = info_of c.args.path.now c.args.net.now in
    let width = vector_width c.args.net.now.vector in
    listed_more make c.loop-place.place width c.in_ok-info.field-0 c.loop-place.bits c.push.new.self (c.args.bits.now ++ listed make 0 width)
    (omega (arith, c.loop-place-test.true, c.width-place-end.ensures.value)) c.in_ok-info.ensures c.in_ok-push.ensures.ok c.loop-place.invariant
