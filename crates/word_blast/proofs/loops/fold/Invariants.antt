use Rattle.std.proofs.Common.{◌≡◌, drop}
use Rattle.aig_core.specs.Graph.{IsLiteral, Extends}
use Rattle.word_blast.specs.Steps.{gate_of}
use Rattle.word_blast.specs.Words.{fold_of}
use Rattle.word_blast.proofs.loops.fold.Given as goal

abbrev pub invariant-loop-i : goal.invariant-loop-i
invariant-loop-i l = record {
  rest : fold_of (gate_of l.op) l.aig l.so_far (drop l.i l.a) ≡ fold_of (gate_of l.op) l.fn.aig l.fn.start l.a;
  kept : Extends l.fn.aig l.aig;
  exists : IsLiteral l.aig l.so_far;
}
