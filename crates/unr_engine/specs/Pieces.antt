-- Texts that are made of pieces.
use Rattle.std.specs.Prelude.{ℕ, List, [], ◌∷◌, ◌++◌, decimal}
use Rattle.unr_engine.specs.declared.pieces.Piece.{Piece}
use Rattle.unr_engine.specs.declared.pieces.Piece.TheVariants.{Text, Number}

-- A piece's bytes.
abbrev pub piece_text : Piece → List ℕ
piece_text (Text bytes) = bytes.now
piece_text (Number number) = decimal number

-- The pieces one after the other.
abbrev pub joined : List Piece → List ℕ
joined [] = []
joined (piece ∷ pieces) = piece_text piece ++ joined pieces
