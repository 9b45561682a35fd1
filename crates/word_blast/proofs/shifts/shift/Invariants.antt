use Rattle.std.proofs.Common.{◌≡◌, drop, length}
use Rattle.std.specs.List.{All}
use Rattle.aig_core.specs.Graph.{IsLiteral, Extends}
use Rattle.word_blast.specs.Steps.{move_of}
use Rattle.word_blast.specs.Words.{shift_from}
use Rattle.word_blast.proofs.shifts.shift.Given as goal

abbrev pub invariant-loop-i : goal.invariant-loop-i
invariant-loop-i l = record {
  rest : shift_from (move_of l.direction l.fill) l.fill l.aig l.shifted.items l.places (drop l.i l.by) ≡ shift_from (move_of l.direction l.fill) l.fill l.fn.aig l.a 1 l.by;
  kept : Extends l.fn.aig l.aig;
  shifted_exists : All (IsLiteral l.aig) l.shifted.items;
  width : length l.shifted.items ≡ length l.a;
}
