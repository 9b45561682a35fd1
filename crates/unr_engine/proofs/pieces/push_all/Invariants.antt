-- The text so far, and the rest of it.
use Rattle.std.proofs.Common.{◌≡◌, ◌++◌, drop}
use Rattle.unr_engine.specs.Pieces.{joined}
use Rattle.unr_engine.proofs.pieces.push_all.Given as goal

abbrev pub invariant-loop-piece : goal.invariant-loop-piece
invariant-loop-piece l = l.text.items ++ joined (drop l.piece-index l.pieces) ≡ l.initial.text.items ++ joined l.pieces
