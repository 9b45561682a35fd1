use Rattle.std.proofs.Common.{◌≡◌, ◌≤◌, ◌-◌}
use Rattle.expr_elab.specs.Vectors.{bits_of}
use Rattle.expr_elab.specs.Selects.{bit_named, joined_to}
use Rattle.expr_elab.proofs.selects.joined_to.Given as goal

abbrev pub invariant-loop-k : goal.invariant-loop-k
invariant-loop-k l = record {
  some : 1 ≤ l.k;
  joined : l.all ≡ joined_to (bit_named (bits_of l.vector) l.window l.index) (l.k - 1);
}
