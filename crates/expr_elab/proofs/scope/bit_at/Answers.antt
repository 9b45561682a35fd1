use Rattle.std.proofs.Common.{◌+◌, sym, arith}
use Rattle.std.proofs.lemmas.Option.{slice_get_past}
use Rattle.expr_elab.specs.Vectors.{vector_width, bits_of}
use Rattle.expr_elab.proofs.Listing.{listed_front, length-listed}
use Rattle.expr_elab.proofs.scope.bit_at.Goals as goal

pub returns-then-place-width : goal.returns-then-place-width
returns-then-place-width c = sym (listed_front (λ k. c.args.vector.first + k) (vector_width c.args.vector) c.args.place (omega (arith, c.if-place-width.true, c.width.ensures.value)))

pub returns-else-place-width : goal.returns-else-place-width
returns-else-place-width c =
    sym (slice_get_past (bits_of c.args.vector) c.args.place
    (omega (arith, c.if-place-width.false, c.width.ensures.value, length-listed (λ k. c.args.vector.first + k) 0 (vector_width c.args.vector))))
