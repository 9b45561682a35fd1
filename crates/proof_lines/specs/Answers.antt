-- What reading a text of lines answers.
use Rattle.std.specs.Prelude.{◌≡◌, ◌≢◌, ℕ, ◌+◌, List, ◌++◌, length, map, Option, Some, None, Result, Ok, Err, ⊤}
use Rattle.std.specs.List.{AllByRecursion}
use Rattle.cnf_core.specs.declared.Line.{Line}
use Rattle.line_text.specs.Lines.{Line as Words, line_text}
use Rattle.proof_lines.specs.Spelling.{PlainLine, plain, line_words, spelling, Fits, RatLine, rat_words, IsRat}
use Rattle.proof_lines.specs.declared.error.LratError.{LratError}
use Rattle.proof_lines.specs.declared.error.LratError.TheVariants.{BadLine, RatHint, Memory}

-- the text begins with these lines, has something behind them, and this is no further line; `line` is its number
pub record IsFirstBad (text : List ℕ) (line : ℕ) (good : List PlainLine) : Type 0 where
  pub fits : AllByRecursion Fits good
  pub place : line ≡ length good + 1
  pub begins : (rest : List ℕ) × (text ≡ spelling good ++ rest)
  pub more : text ≢ spelling good
  pub refused : (x : PlainLine) (rest : List ℕ) → Fits x → text ≢ spelling good ++ (line_text (line_words x) ++ rest)

-- behind these lines the text has an addition with a negative hint
abbrev pub HasRat : List ℕ → List PlainLine → Type 0
HasRat text good = (x : RatLine) × (rest : List ℕ) × IsRat x × (text ≡ spelling good ++ (line_text (rat_words x) ++ rest))

-- a line that these words spell; or they spell none
abbrev pub LineAnswers : Words → Option PlainLine → Type 0
LineAnswers ws (Some x) = Fits x × (ws ≡ line_words x)
LineAnswers ws None = (x : PlainLine) → Fits x → ws ≢ line_words x

-- the lines that the text spells, or the first line that is none, unless memory ran out
abbrev pub LratAnswers : List ℕ → Result (List Line) LratError → Type 0
LratAnswers text (Ok lines) = AllByRecursion Fits (map plain lines) × (text ≡ spelling (map plain lines))
LratAnswers text (Err (BadLine line)) = (good : List PlainLine) × IsFirstBad text line good × (HasRat text good → ⊥)
LratAnswers text (Err (RatHint line)) = (good : List PlainLine) × IsFirstBad text line good × HasRat text good
LratAnswers text (Err Memory) = ⊤

-- these lines were read, unless memory ran out
abbrev pub LratGives : List PlainLine → Result (List Line) LratError → Type 0
LratGives lines (Ok read) = map plain read ≡ lines
LratGives lines (Err (BadLine line)) = ⊥
LratGives lines (Err (RatHint line)) = ⊥
LratGives lines (Err Memory) = ⊤
