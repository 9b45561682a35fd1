use Rattle.std.proofs.Common.{◌≡◌, All, length, drop}
use Rattle.aig_core.specs.Graph.{IsLiteral, Extends}
use Rattle.plain_blast.specs.Plain.{run_each, wiring}
use Rattle.plain_blast.specs.Exist.{Exist}
use Rattle.plain_blast.proofs.bodies.+run.Given as goal

abbrev pub invariant-loop-s : goal.invariant-loop-s
invariant-loop-s l = record {
  rest : run_each (drop l.s-index l.s-items) l.clocked l.settled l.path (wiring l.aig l.targets l.paths.items) ≡ run_each l.s-items l.clocked l.settled l.path (wiring l.initial.aig l.initial.targets l.initial.paths.items);
  exist : Exist (wiring l.aig l.targets l.paths.items);
  settled_exist : All (IsLiteral l.aig) l.settled;
  path_exists : IsLiteral l.aig l.path;
  long : length l.targets ≡ length l.initial.targets;
  kept : Extends l.initial.aig l.aig;
}
