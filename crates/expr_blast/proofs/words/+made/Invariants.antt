use Rattle.std.proofs.Common.{◌≡◌, drop}
use Rattle.aig_core.specs.Graph.{IsLiteral, Extends}
use Rattle.word_blast.specs.Words.{fold_of}
use Rattle.expr_blast.specs.Circuits.{constant}
use Rattle.expr_blast.proofs.Forms.{row_step}
use Rattle.expr_blast.proofs.words.+made.Given as goal

abbrev pub invariant-loop-operand : goal.invariant-loop-operand
invariant-loop-operand l = record {
  rest : fold_of (row_step l.every l.bits) l.aig l.so_far (drop l.operand-index l.operand-items) ≡ fold_of (row_step l.every l.bits) l.fn.aig (constant l.every) l.operand-items;
  exists : IsLiteral l.aig l.so_far;
  kept : Extends l.fn.aig l.aig;
}
