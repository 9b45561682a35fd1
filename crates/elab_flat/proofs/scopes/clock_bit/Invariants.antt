use Rattle.std.proofs.Common.{◌≡◌, true, take}
use Rattle.std.specs.Prelude.{All}
use Rattle.elab_flat.specs.declared.nets.Net.{Net}
use Rattle.expr_elab.specs.Vectors.{vector_width}
use Rattle.elab_flat.proofs.scopes.clock_bit.Given as goal

abbrev pub invariant-loop-net : goal.invariant-loop-net
invariant-loop-net l = All (λ (n : Net). (n.name ≡ l.clock) × (n.input ≡ true) × (vector_width n.vector ≡ 1) → ⊥) (take l.net-index l.nets)
