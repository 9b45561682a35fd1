-- How a text divides into tokens, and where it can't go on (IEEE 1364-2001 clause 2.1).
use Rattle.std.specs.Prelude.{◌≡◌, ℕ, ◌+◌, ◌<◌, ◌≤◌, ◌==◌, Bool, true, false, List, [], ◌∷◌, ◌++◌, length, take, drop, nat_lt, Option, Some, None, Result, Ok, Err, is_none, if◌then◌else◌}
use Rattle.std.specs.List.{prefix_len}
use Rattle.word_core.specs.declared.place.Place.{Place}
use Rattle.vlog_tokens.specs.declared.error.LexError.{LexError}
use Rattle.vlog_tokens.specs.declared.error.LexError.TheVariants.{BadDirective, BadChar, BadNumber, Unclosed, Memory}
use Rattle.vlog_tokens.specs.declared.gap.Opening.{Opening}
use Rattle.vlog_tokens.specs.declared.gap.Opening.TheVariants.{Blank, Line, Block, Attribute, Other}
use Rattle.vlog_tokens.specs.declared.turn.Turn.{Turn}
use Rattle.vlog_tokens.specs.declared.turn.Turn.TheVariants.{Pass, Take, NoEnd, NoValue, Nothing}
use Rattle.vlog_tokens.specs.Gaps.{opening, IsGap, IsUnclosed, bytes_before, is_in_line}
use Rattle.vlog_tokens.specs.Numbers.{number_of}
use Rattle.vlog_tokens.specs.Places.{start, past}
use Rattle.vlog_tokens.specs.Tokens.{Token, IsLongest, NoToken, token_length}
use Rattle.vlog_tokens.specs.Words.{begins_number}

-- a token that begins as a number and has no value
abbrev pub is_bad_number : List ℕ → Bool
is_bad_number [] = false
is_bad_number (b ∷ bs) = if begins_number b then is_none (number_of (b ∷ bs)) else false

-- What stands here can't be read on: a comment or an attribute has no end; the longest token is a number without a value; no token begins.
pub data Stops : Place → List ℕ → LexError → Type 0 where
  unclosed : (at : Place) (text : List ℕ) → IsUnclosed (opening text) text → Stops at text (Unclosed at)
  bad_number : (at : Place) (taken rest : List ℕ) → opening (taken ++ rest) ≡ Other → IsLongest taken rest → is_bad_number taken ≡ true → Stops at (taken ++ rest) (BadNumber at)
  bad_char : (at : Place) (b : ℕ) (bs : List ℕ) → opening (b ∷ bs) ≡ Other → NoToken (b ∷ bs) → Stops at (b ∷ bs) (BadChar at)

-- The bytes from this place on divide into these tokens, each the longest that begins there, with blanks, comments and attributes between them, to the
-- end of the text, or as far as they can be read. The number counts the bytes of the text that stand before.
pub data Reads : ℕ → Place → List ℕ → List Token → Option LexError → Type 0 where
  ends : (from : ℕ) (at : Place) → Reads from at [] [] None
  stops : (from : ℕ) (at : Place) (text : List ℕ) (error : LexError) → Stops at text error → Reads from at text [] (Some error)
  gap : (from : ℕ) (at : Place) (taken rest : List ℕ) (ts : List Token) (stop : Option LexError) → IsGap (opening (taken ++ rest)) taken rest
      → Reads (from + length taken) (past at taken) rest ts stop → Reads from at (taken ++ rest) ts stop
  token : (from : ℕ) (at : Place) (taken rest : List ℕ) (ts : List Token) (stop : Option LexError) → opening (taken ++ rest) ≡ Other → IsLongest taken rest
      → is_bad_number taken ≡ false → Reads (from + length taken) (past at taken) rest ts stop
      → Reads from at (taken ++ rest) (record { text = taken; at = at; from = from } ∷ ts) stop

-- the answer for a text without a backquote outside comments
abbrev pub Divided : List ℕ → Result (List Token) LexError → Type 0
Divided text (Ok found) = Reads 0 start text found None
Divided text (Err Memory) = Unit {0}
Divided text (Err error) = (found : List Token) × Reads 0 start text found (Some error)

-- ---- what is done at a place

abbrev pub closed : List ℕ → ℕ → Turn
closed body n = if nat_lt n (length body) then Pass (n + 4) else NoEnd

abbrev pub token_or_bad : List ℕ → ℕ → Turn
token_or_bad text n = if n == 0 then Nothing else if is_bad_number (take n text) then NoValue else Take n

abbrev pub close : ℕ → ℕ → List ℕ → Turn
close a b text = closed (drop 2 text) (bytes_before a b (drop 2 text))

abbrev pub turn_at : Opening → List ℕ → Turn
turn_at Blank text = Pass 1
turn_at Line text = Pass (prefix_len is_in_line text)
turn_at Block text = close 42 47 text
turn_at Attribute text = close 42 41 text
turn_at Other text = token_or_bad text (token_length text)

unfoldable pub turn : List ℕ → Turn
turn text = turn_at (opening text) text

-- what is passed or taken is some of the text
abbrev pub TurnFits : List ℕ → Turn → Type 0
TurnFits text (Pass n) = (0 < n) × (n ≤ length text)
TurnFits text (Take n) = (0 < n) × (n ≤ length text)
TurnFits text NoEnd = Unit {0}
TurnFits text NoValue = Unit {0}
TurnFits text Nothing = Unit {0}
