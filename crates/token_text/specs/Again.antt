-- A text that divides into tokens with given bytes, wherever they stand.
use Rattle.std.specs.Prelude.{◌≡◌, ℕ, false, List, [], ◌∷◌, Ok}
use Rattle.vlog_tokens.specs.Tokens.{Token, IsToken}
use Rattle.vlog_tokens.specs.Reads.{is_bad_number}
use Rattle.vlog_tokens.specs.Directives.{LexAnswers}
use Rattle.token_text.specs.Printing.{texts}

-- the bytes are a token, and no number without a value
pub record IsGood (text : List ℕ) : Type 0 where
  pub token : IsToken text
  pub good : is_bad_number text ≡ false

-- each of them is
abbrev pub AreTokens : List (List ℕ) → Type 0
AreTokens [] = Unit {0}
AreTokens (t ∷ ts) = IsGood t × AreTokens ts

-- the text is divided, into tokens with these bytes
abbrev pub DividesInto : List ℕ → List (List ℕ) → Type 0
DividesInto text wanted = (found : List Token) × LexAnswers text (Ok found) × (texts found ≡ wanted)
