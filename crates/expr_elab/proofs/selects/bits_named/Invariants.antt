use Rattle.expr_elab.specs.Vectors.{bits_of}
use Rattle.expr_elab.specs.Selects.{bit_named}
use Rattle.expr_elab.proofs.Listing.{SoFar}
use Rattle.expr_elab.proofs.selects.bits_named.Given as goal

abbrev pub invariant-loop-k : goal.invariant-loop-k
invariant-loop-k l = SoFar (bit_named (bits_of l.vector) l.window l.index) l.bits l.k l.window.count
