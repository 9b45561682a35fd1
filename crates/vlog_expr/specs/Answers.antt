-- What is answered of tokens: the one tree that they spell, or why they spell none.
use Rattle.std.specs.Prelude.{◌≡◌, ℕ, ◌-◌, Bool, true, false, List, [], ◌∷◌, ◌++◌, length, drop, Result, Ok, Err}
use Rattle.parsing.specs.declared.fault.Fault.{Fault}
use Rattle.parsing.specs.declared.fault.Fault.TheVariants as fault
use Rattle.parsing.specs.Answers.{IsTree, IsRefused, IsTooDeep}
use Rattle.vlog_rules.specs.Grammar.{same}
use Rattle.vlog_tokens.specs.declared.word.Word.TheVariants as w
use Rattle.vlog_tokens.specs.Tokens.{Token}
use Rattle.vlog_tokens.specs.Words.{word_of}
use Rattle.word_core.specs.declared.place.Place.{Place}
use Rattle.vlog_expr.specs.declared.error.ParseError.{ParseError}
use Rattle.vlog_expr.specs.declared.error.ParseError.TheVariants as parse_error

-- where the rest starts
abbrev pub start_of : List Token → Place → Place
start_of [] end = end
start_of (t ∷ ts) end = t.at

-- whether the next token is a word that the grammar leaves out
abbrev pub left_out : List Token → Bool
left_out [] = false
left_out (t ∷ ts) = same (word_of t.text) w.LeftOut

-- The tree that the tokens spell, of which there is one. Or the first token with which no tree goes on, however deep, or the end where there is none: a word that the grammar leaves out, or any other. Or the first token with which no tree of at most 256 levels goes on, though a deeper one does.
abbrev pub Answers : {A : Type 0} → (ℕ → A → List Token → Type 0) → List Token → Place → Result A ParseError → Type 0
Answers Spells tokens end (Ok tree) = IsTree Spells 256 tokens tree
Answers Spells tokens end (Err parse_error.Memory) = Unit {0}
Answers Spells tokens end (Err (parse_error.Expected at what)) = (front : List Token) × (rest : List Token) × (tokens ≡ front ++ rest) × (at ≡ start_of rest end) × (left_out rest ≡ false) × IsRefused Spells 256 front rest
Answers Spells tokens end (Err (parse_error.NotInProfile at)) = (front : List Token) × (rest : List Token) × (tokens ≡ front ++ rest) × (at ≡ start_of rest end) × (left_out rest ≡ true) × IsRefused Spells 256 front rest
Answers Spells tokens end (Err (parse_error.TooDeep at)) = (front : List Token) × (rest : List Token) × (tokens ≡ front ++ rest) × (at ≡ start_of rest end) × IsTooDeep Spells 256 front rest

-- ---- how a fault of reading becomes an error

-- the last so many tokens
abbrev pub last : List Token → ℕ → List Token
last tokens left = drop (length tokens - left) tokens

-- a refusal of the rest's first token, or one for want of memory
abbrev pub IsRefusalOf : List Token → Place → ParseError → Type 0
IsRefusalOf rest end (parse_error.Expected at what) = (at ≡ start_of rest end) × (left_out rest ≡ false)
IsRefusalOf rest end (parse_error.NotInProfile at) = (at ≡ start_of rest end) × (left_out rest ≡ true)
IsRefusalOf rest end (parse_error.TooDeep at) = ⊥
IsRefusalOf rest end parse_error.Memory = Unit {0}

abbrev pub IsErrorOf : List Token → Place → Fault → ParseError → Type 0
IsErrorOf tokens end fault.Memory error = error ≡ parse_error.Memory
IsErrorOf tokens end (fault.Expected left) error = IsRefusalOf (last tokens left) end error
IsErrorOf tokens end (fault.TooDeep left) error = error ≡ parse_error.TooDeep (start_of (last tokens left) end)
