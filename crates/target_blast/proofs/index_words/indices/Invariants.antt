use Rattle.std.proofs.Common.{◌≡◌, length, map, take}
use Rattle.std.specs.List.{All}
use Rattle.aig_core.specs.Graph.{IsLiteral, Extends}
use Rattle.target_blast.specs.Writes.{index_width}
use Rattle.target_blast.proofs.Steps.{Made}
use Rattle.target_blast.proofs.index_words.indices.Given as goal

abbrev pub invariant-loop-part : goal.invariant-loop-part
invariant-loop-part l = record {
  made : Made l.read l.part-items l.fn.aig l.part-index l.aig l.words.items;
  widths : map length l.words.items ≡ map index_width (take l.part-index l.part-items);
  exist : All (All (IsLiteral l.aig)) l.words.items;
  kept : Extends l.fn.aig l.aig;
}
