-- Lists of pieces, one after the other.
use Rattle.std.proofs.Common.{◌≡◌, ℕ, ◌+◌, ◌<◌, ◌≤◌, List, [], ◌++◌, length, get_or, drop, Result, Ok, Err, sym}
use Rattle.std.proofs.lemmas.List.{at_drop_more, at_drop_all}
use Rattle.unr_io.specs.declared.sink.SinkError.{SinkError}
use Rattle.unr_io.specs.Sink.{SinkState, Puts}
use Rattle.unr_engine.specs.declared.pieces.Piece.{Piece}
use Rattle.unr_engine.specs.declared.pieces.Piece.TheVariants.{Text}
use Rattle.unr_engine.specs.Pieces.{piece_text, joined}
use Rattle.unr_engine.proofs.Putting.{puts_then, puts_stop, puts_nothing, puts_same}

-- what stands at a place that the list does not have
abbrev no_piece : Piece
no_piece = Text (record { ref_ptr = (0, 0); now = [] })

joined-drop : (pieces : List Piece) (i : ℕ) → i < length pieces → joined (drop i pieces) ≡ piece_text (get_or pieces i no_piece) ++ joined (drop (i + 1) pieces)
joined-drop pieces i lt = at_drop_more joined pieces i no_piece lt

-- a piece is put, and then the rest
pub next_put : (pieces : List Piece) (i : ℕ) (done : Unit {0}) (result : Result (Unit {0}) SinkError) (s t u : SinkState) → i < length pieces → Puts {T = Unit {0}} (piece_text (get_or pieces i no_piece)) (Ok done) s t → Puts (joined (drop (i + 1) pieces)) result t u → Puts (joined (drop i pieces)) result s u
next_put pieces i done result s t u lt p q =
    puts_same (piece_text (get_or pieces i no_piece) ++ joined (drop (i + 1) pieces)) (joined (drop i pieces)) result s u (sym (joined-drop pieces i lt)) (puts_then (piece_text (get_or pieces i no_piece)) (joined (drop (i + 1) pieces)) done result s t u p q)

-- a piece that is refused ends the text
pub next_stops : (pieces : List Piece) (i : ℕ) (error : SinkError) (result : Result (Unit {0}) SinkError) (s t : SinkState) → i < length pieces → result ≡ Err error → Puts {T = Unit {0}} (piece_text (get_or pieces i no_piece)) (Err error) s t → Puts (joined (drop i pieces)) result s t
next_stops pieces i error result s t lt e p =
    puts_same (piece_text (get_or pieces i no_piece) ++ joined (drop (i + 1) pieces)) (joined (drop i pieces)) result s t (sym (joined-drop pieces i lt)) (puts_stop (piece_text (get_or pieces i no_piece)) (joined (drop (i + 1) pieces)) error result s t e p)

-- no piece is left
pub none_left : (pieces : List Piece) (i : ℕ) (done : Unit {0}) (s : SinkState) → length pieces ≤ i → Puts {T = Unit {0}} (joined (drop i pieces)) (Ok done) s s
none_left pieces i done s le = puts_same [] (joined (drop i pieces)) (Ok done) s s (sym (at_drop_all joined pieces i le)) (puts_nothing done s)
