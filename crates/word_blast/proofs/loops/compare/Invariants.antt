use Rattle.std.proofs.Common.{◌≡◌, drop}
use Rattle.std.specs.List.{zip}
use Rattle.aig_core.specs.Graph.{IsLiteral, Extends}
use Rattle.word_blast.specs.Steps.{compare_of}
use Rattle.word_blast.specs.Words.{fold_of}
use Rattle.word_blast.proofs.loops.compare.Given as goal

abbrev pub invariant-loop-i : goal.invariant-loop-i
invariant-loop-i l = record {
  rest : fold_of (compare_of l.comparison) l.aig l.so_far (drop l.i (zip l.a l.b)) ≡ fold_of (compare_of l.comparison) l.fn.aig 1 (zip l.a l.b);
  kept : Extends l.fn.aig l.aig;
  exists : IsLiteral l.aig l.so_far;
}
