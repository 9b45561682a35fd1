-- What puts the rest after these puts the whole.
use Rattle.std.proofs.Common.{drop, Result}
use Rattle.unr_io.specs.declared.sink.SinkError.{SinkError}
use Rattle.unr_io.specs.Sink.{SinkState, Puts}
use Rattle.unr_engine.specs.Pieces.{joined}
use Rattle.unr_engine.proofs.pieces.put_all.Given as goal

abbrev pub invariant-loop-piece : goal.invariant-loop-piece
invariant-loop-piece g l =
    (result : Result (Unit {0}) SinkError) (last : SinkState) → Puts (joined (drop l.piece-index l.pieces)) result (g.E.Sink.state l.err) last → Puts (joined l.pieces) result (g.E.Sink.state l.initial.err) last
