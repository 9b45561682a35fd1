use Rattle.std.proofs.Common.{◌≡◌, ◌+◌, ◌-◌, ◌++◌}
use Rattle.bit_exprs.specs.Values.{listed}
use Rattle.expr_elab.specs.Vectors.{vector_width, bits_of}
use Rattle.elab_flat.proofs.names.add_numbers.Given as goal

abbrev pub invariant-loop-place : goal.invariant-loop-place
invariant-loop-place l = l.bits ++ listed (λ k. l.vector.first + k) l.place (vector_width l.vector - l.place) ≡ l.initial.bits ++ bits_of l.vector
