use Rattle.std.proofs.Common.{◌≡◌, ◌≤◌, drop, length}
use Rattle.std.specs.List.{All}
use Rattle.aig_core.specs.Graph.{IsLiteral, Extends}
use Rattle.bit_exprs.specs.Updates.{parts_width}
use Rattle.target_blast.specs.Writes.{written_of}
use Rattle.target_blast.proofs.targets.put.Given as goal

abbrev pub invariant-loop-i : goal.invariant-loop-i
invariant-loop-i l = record {
  low : l.low ≡ parts_width (drop l.i l.target.parts);
  within : l.low ≤ length l.value;
  rest : written_of (drop l.i l.target.parts) (drop l.i l.indices) l.value l.aig l.targets ≡ written_of l.target.parts l.indices l.value l.fn.aig l.fn.targets;
  exist : All (IsLiteral l.aig) l.targets;
  long : length l.targets ≡ length l.fn.targets;
  kept : Extends l.fn.aig l.aig;
}
