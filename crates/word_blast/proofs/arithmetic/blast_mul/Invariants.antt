use Rattle.std.proofs.Common.{◌≡◌, drop, length, replicate}
use Rattle.std.specs.List.{All}
use Rattle.aig_core.specs.Graph.{IsLiteral, Extends}
use Rattle.word_blast.specs.Words.{products_from}
use Rattle.word_blast.proofs.arithmetic.blast_mul.Given as goal

abbrev pub invariant-loop-i : goal.invariant-loop-i
invariant-loop-i l = record {
  rest : products_from l.aig l.product.items l.shifted.items (drop l.i l.b) ≡ products_from l.fn.aig (replicate (length l.a) 0) l.a l.b;
  kept : Extends l.fn.aig l.aig;
  product_exists : All (IsLiteral l.aig) l.product.items;
  shifted_exists : All (IsLiteral l.aig) l.shifted.items;
  product_width : length l.product.items ≡ length l.a;
  shifted_width : length l.shifted.items ≡ length l.a;
}
