use Rattle.std.proofs.Common.{◌+◌, refl, arith}
use Rattle.expr_elab.specs.Vectors.{vector_width, bits_of}
use Rattle.expr_elab.proofs.Listing.{listed_more}
use Rattle.expr_elab.proofs.scope.bits.Goals as goal

pub loop-k-preserved : goal.loop-k-preserved
loop-k-preserved c =
    listed_more (λ k. c.args.vector.first + k) c.loop-k.k (vector_width c.args.vector) _ c.loop-k.bits c.push.new.self (bits_of c.args.vector) (omega (arith, c.loop-k-test.true, c.width-k-end.ensures.value)) refl
    c.in_ok-push.ensures.ok c.loop-k.invariant
