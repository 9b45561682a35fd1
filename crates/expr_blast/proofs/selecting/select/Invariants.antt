use Rattle.std.proofs.Common.{◌≡◌, ◌-◌, ◌++◌}
use Rattle.aig_core.specs.Graph.{Extends}
use Rattle.expr_blast.specs.Circuits.{select_from}
use Rattle.expr_blast.proofs.selecting.select.Given as goal

abbrev pub invariant-loop-k : goal.invariant-loop-k
invariant-loop-k l = record {
  graph : (select_from l.window l.signed l.index l.vector l.aig l.k (l.window.count - l.k)).0 ≡ (select_from l.window l.signed l.index l.vector l.fn.aig 0 l.window.count).0;
  literals : l.literals.items ++ (select_from l.window l.signed l.index l.vector l.aig l.k (l.window.count - l.k)).1 ≡ (select_from l.window l.signed l.index l.vector l.fn.aig 0 l.window.count).1;
  kept : Extends l.fn.aig l.aig;
}
