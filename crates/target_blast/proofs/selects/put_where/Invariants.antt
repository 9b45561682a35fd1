use Rattle.std.proofs.Common.{◌≡◌, drop, length}
use Rattle.std.specs.List.{All}
use Rattle.aig_core.specs.Graph.{IsLiteral, Extends}
use Rattle.target_blast.specs.Writes.{put_where}
use Rattle.target_blast.proofs.selects.put_where.Given as goal

abbrev pub invariant-loop-p : goal.invariant-loop-p
invariant-loop-p l = record {
  rest : put_where l.selector.window l.selector.signed l.index l.k l.x l.p (drop l.p l.vector) l.aig l.targets ≡ put_where l.selector.window l.selector.signed l.index l.k l.x 0 l.vector l.fn.aig l.fn.targets;
  exist : All (IsLiteral l.aig) l.targets;
  long : length l.targets ≡ length l.fn.targets;
  kept : Extends l.fn.aig l.aig;
}
