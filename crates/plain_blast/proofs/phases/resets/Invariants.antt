use Rattle.std.proofs.Common.{◌≡◌, All, length, drop}
use Rattle.aig_core.specs.Graph.{IsLiteral, Extends}
use Rattle.plain_blast.specs.Plain.{resets_of}
use Rattle.plain_blast.proofs.phases.resets.Given as goal

abbrev pub invariant-loop-p : goal.invariant-loop-p
invariant-loop-p l = record {
  rest : resets_of (drop l.p-index l.processes) l.first l.aig l.targets ≡ resets_of l.processes l.first l.fn.aig l.fn.targets;
  first_exist : All (IsLiteral l.aig) l.first;
  exist : All (IsLiteral l.aig) l.targets;
  long : length l.targets ≡ length l.fn.targets;
  kept : Extends l.fn.aig l.aig;
}
