use Rattle.std.proofs.Common.{◌≡◌, length, drop, false, []}
use Rattle.aig_core.specs.Graph.{Extends}
use Rattle.design_core.specs.Legality.{bodies}
use Rattle.plain_blast.specs.Plain.{run_each, wiring}
use Rattle.plain_blast.specs.Exist.{Exist}
use Rattle.plain_blast.proofs.phases.settle.Given as goal

abbrev pub invariant-loop-k : goal.invariant-loop-k
invariant-loop-k l = record {
  rest : run_each (drop l.k-index (bodies l.design l.order)) false [] 1 (wiring l.aig l.literals l.paths.items) ≡ run_each (bodies l.design l.order) false [] 1 (wiring l.initial.aig l.initial.literals l.initial.paths.items);
  exist : Exist (wiring l.aig l.literals l.paths.items);
  long : length l.literals ≡ length l.initial.literals;
  kept : Extends l.initial.aig l.aig;
}
