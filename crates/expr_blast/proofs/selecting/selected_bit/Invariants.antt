use Rattle.std.proofs.Common.{◌≡◌, drop}
use Rattle.aig_core.specs.Graph.{IsLiteral, Extends}
use Rattle.expr_blast.specs.Circuits.{bit_from}
use Rattle.expr_blast.proofs.selecting.selected_bit.Given as goal

abbrev pub invariant-loop-p : goal.invariant-loop-p
invariant-loop-p l = record {
  rest : bit_from l.window l.signed l.index l.k l.aig l.so_far l.p (drop l.p l.vector) ≡ bit_from l.window l.signed l.index l.k l.fn.aig 0 0 l.vector;
  kept : Extends l.fn.aig l.aig;
  exists : IsLiteral l.aig l.so_far;
}
