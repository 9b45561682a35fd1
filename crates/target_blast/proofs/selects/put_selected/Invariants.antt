use Rattle.std.proofs.Common.{◌≡◌, drop, length}
use Rattle.std.specs.List.{All}
use Rattle.aig_core.specs.Graph.{IsLiteral, Extends}
use Rattle.target_blast.specs.Writes.{put_selected}
use Rattle.target_blast.proofs.selects.put_selected.Given as goal

abbrev pub invariant-loop-k : goal.invariant-loop-k
invariant-loop-k l = record {
  rest : put_selected l.selector.window l.selector.signed l.index l.vector l.k (drop l.k l.word) l.aig l.targets ≡ put_selected l.selector.window l.selector.signed l.index l.vector 0 l.word l.fn.aig l.fn.targets;
  exist : All (IsLiteral l.aig) l.targets;
  long : length l.targets ≡ length l.fn.targets;
  kept : Extends l.fn.aig l.aig;
}
