use Rattle.std.proofs.Common.{◌+◌, ◌++◌, refl, arith}
use Rattle.expr_elab.specs.Vectors.{vector_width, bits_of}
use Rattle.expr_elab.proofs.Listing.{listed_more}
use Rattle.elab_flat.proofs.names.add_numbers.Goals as goal

pub loop-place-preserved : goal.loop-place-preserved
loop-place-preserved c =
    listed_more (λ k. c.args.vector.first + k) c.loop-place.place (vector_width c.args.vector) (c.args.vector.first + c.loop-place.place) c.loop-place.bits c.push.new.self (c.args.bits.now ++ bits_of c.args.vector)
    (omega (arith, c.loop-place-test.true, c.width-place-end.ensures.value)) refl c.in_ok-push.ensures.ok c.loop-place.invariant
