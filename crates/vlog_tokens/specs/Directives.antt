-- Where the first directive begins: at the first backquote outside comments (IEEE 1364-2001 clause 19).
use Rattle.std.specs.Prelude.{◌≡◌, ℕ, ◌<◌, ◌≤◌, Bool, true, false, List, [], ◌∷◌, ◌++◌, ◌⊎◌, ◌+◌, length, take, drop, Option, Some, None, Result, Ok, Err, if◌then◌else◌}
use Rattle.std.specs.List.{prefix_len}
use Rattle.word_core.specs.declared.place.Place.{Place}
use Rattle.vlog_tokens.specs.declared.directive.Scan.{Scan}
use Rattle.vlog_tokens.specs.declared.directive.Scan.TheVariants.{Skip, Quote, Rest}
use Rattle.vlog_tokens.specs.declared.error.LexError.{LexError}
use Rattle.vlog_tokens.specs.declared.error.LexError.TheVariants.{BadDirective, Memory}
use Rattle.vlog_tokens.specs.declared.gap.Opening.{Opening}
use Rattle.vlog_tokens.specs.declared.gap.Opening.TheVariants.{Blank, Line, Block, Attribute, Other}
use Rattle.vlog_tokens.specs.declared.turn.Turn.{Turn}
use Rattle.vlog_tokens.specs.declared.turn.Turn.TheVariants.{Pass, Take, NoEnd, NoValue, Nothing}
use Rattle.vlog_tokens.specs.Gaps.{begins_with, opening, IsGap, NeverCloses, is_in_line}
use Rattle.vlog_tokens.specs.Places.{start, past}
use Rattle.vlog_tokens.specs.Reads.{Divided, close}
use Rattle.vlog_tokens.specs.Tokens.{Token}

-- one byte that is no backquote
pub record IsPlainByte (taken : List ℕ) : Type 0 where
  pub one : length taken ≡ 1
  pub plain : begins_with 96 taken ≡ false

-- A comment is passed as a whole, and elsewhere each byte that is no backquote. Attributes are no comments here.
abbrev pub IsSkip : Opening → List ℕ → List ℕ → Type 0
IsSkip Blank taken rest = IsPlainByte taken
IsSkip Line taken rest = IsGap Line taken rest
IsSkip Block taken rest = IsGap Block taken rest
IsSkip Attribute taken rest = IsPlainByte taken
IsSkip Other taken rest = IsPlainByte taken

-- The place of the first backquote outside comments, in the bytes from this place on. A comment without an end goes to the end of the text.
pub data Quotes : Place → List ℕ → Option Place → Type 0 where
  none : (at : Place) → Quotes at [] None
  unclosed : (at : Place) (text : List ℕ) → opening text ≡ Block → NeverCloses 42 47 text → Quotes at text None
  here : (at : Place) (bs : List ℕ) → Quotes at (96 ∷ bs) (Some at)
  skip : (at : Place) (taken rest : List ℕ) (quote : Option Place) → IsSkip (opening (taken ++ rest)) taken rest → Quotes (past at taken) rest quote → Quotes at (taken ++ rest) quote

-- The answer for a text: the first backquote outside comments is refused before the text is divided.
abbrev pub LexAnswers : List ℕ → Result (List Token) LexError → Type 0
LexAnswers text answer = (Quotes start text None × Divided text answer) ⊎ ((at : Place) × Quotes start text (Some at) × (answer ≡ Err (BadDirective at)))

-- No other answer is one for the text, but that memory ran out.
abbrev pub OnlyAnswer : List ℕ → Result (List Token) LexError → Type 0
OnlyAnswer text answer = (other : Result (List Token) LexError) → LexAnswers text other → (other ≡ answer) ⊎ ((other ≡ Err Memory) ⊎ (answer ≡ Err Memory))

-- The tokens are slices of the text, in order and apart, behind so many of its bytes.
abbrev pub AreSlices : List ℕ → ℕ → List Token → Type 0
AreSlices text from [] = Unit {0}
AreSlices text from (t ∷ ts) = (from ≤ t.from) × (take (length t.text) (drop t.from text) ≡ t.text) × AreSlices text (t.from + length t.text) ts

-- ---- how the backquote is found

abbrev pub scan_of : Turn → Scan
scan_of (Pass n) = Skip n
scan_of (Take n) = Rest
scan_of NoEnd = Rest
scan_of NoValue = Rest
scan_of Nothing = Rest

abbrev pub scan_byte : List ℕ → Scan
scan_byte text = if begins_with 96 text then Quote else Skip 1

abbrev pub scan_at : Opening → List ℕ → Scan
scan_at Blank text = scan_byte text
scan_at Line text = Skip (prefix_len is_in_line text)
scan_at Block text = scan_of (close 42 47 text)
scan_at Attribute text = scan_byte text
scan_at Other text = scan_byte text

unfoldable pub scan : List ℕ → Scan
scan text = scan_at (opening text) text

-- what is passed is some of the text
abbrev pub ScanFits : List ℕ → Scan → Type 0
ScanFits text (Skip n) = (0 < n) × (n ≤ length text)
ScanFits text Quote = Unit {0}
ScanFits text Rest = Unit {0}
