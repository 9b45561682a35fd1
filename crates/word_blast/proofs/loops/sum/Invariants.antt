use Rattle.std.proofs.Common.{◌≡◌, ◌++◌, drop}
use Rattle.aig_core.specs.Graph.{IsLiteral, Extends}
use Rattle.word_blast.specs.Words.{sum_from}
use Rattle.word_blast.proofs.loops.sum.Given as goal

abbrev pub invariant-loop-i : goal.invariant-loop-i
invariant-loop-i l = record {
  graph : (sum_from l.aig l.carried (drop l.i l.a) (drop l.i l.b)).0 ≡ (sum_from l.fn.aig l.fn.carry l.a l.b).0;
  literals : l.bits.items ++ (sum_from l.aig l.carried (drop l.i l.a) (drop l.i l.b)).1 ≡ (sum_from l.fn.aig l.fn.carry l.a l.b).1;
  kept : Extends l.fn.aig l.aig;
  carried : IsLiteral l.aig l.carried;
}
