use Rattle.std.proofs.Common.{◌≡◌, ◌+◌, ◌-◌, ◌++◌}
use Rattle.bit_exprs.specs.Values.{listed}
use Rattle.expr_elab.specs.Vectors.{vector_width, bits_of}
use Rattle.expr_elab.proofs.scope.bits.Given as goal

abbrev pub invariant-loop-k : goal.invariant-loop-k
invariant-loop-k l = l.bits ++ listed (λ k. l.vector.first + k) l.k (vector_width l.vector - l.k) ≡ bits_of l.vector
