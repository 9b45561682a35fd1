use Rattle.std.proofs.Common.{◌≡◌, ◌-◌, ◌++◌}
use Rattle.bit_exprs.specs.Values.{listed}
use Rattle.expr_elab.specs.Vectors.{vector_width}
use Rattle.elab_flat.specs.Bits.{info_of}
use Rattle.elab_flat.proofs.names.add_bits.Given as goal

abbrev pub invariant-loop-place : goal.invariant-loop-place
invariant-loop-place l = l.bits ++ listed (info_of l.path l.net) l.place (vector_width l.net.vector - l.place) ≡ l.initial.bits ++ listed (info_of l.path l.net) 0 (vector_width l.net.vector)
