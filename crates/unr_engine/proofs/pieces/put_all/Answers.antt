use Rattle.std.proofs.lemmas.Result.{err_from_is_err_and}
use Rattle.unr_engine.proofs.PieceLists.{next_put, next_stops, none_left}
use Rattle.unr_engine.proofs.pieces.put_all.Goals as goal

pub returns-in_err-put_piece : goal.returns-in_err-put_piece
returns-in_err-put_piece g c =
    let p = err_from_is_err_and c.from_residual.result c.from_residual.ensures.1 in
    c.loop-piece.invariant c.from_residual.result (g.E.Sink.state c.put_piece.new.err) (next_stops c.args.pieces.now c.loop-piece.piece-index c.in_err-put_piece.field-0.0 c.from_residual.result (g.E.Sink.state c.loop-piece.err) (g.E.Sink.state c.put_piece.new.err) c.loop-piece-test.true (rw p.2 at p.1) c.in_err-put_piece.ensures)

pub loop-piece-preserved : goal.loop-piece-preserved
loop-piece-preserved g c =
    λ result last rest. c.loop-piece.invariant result last (next_put c.args.pieces.now c.loop-piece.piece-index c.in_ok-put_piece.field-0 result (g.E.Sink.state c.loop-piece.err) (g.E.Sink.state c.put_piece.new.err) last c.loop-piece-test.true c.in_ok-put_piece.ensures rest)

pub returns : goal.returns
returns g c =
    c.loop-piece.invariant _ (g.E.Sink.state c.loop-piece.err) (none_left c.args.pieces.now c.loop-piece.piece-index tt (g.E.Sink.state c.loop-piece.err) c.loop-piece-test.false)
