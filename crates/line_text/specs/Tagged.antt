-- Lines of a tag and a word.
use Rattle.std.specs.Prelude.{ℕ, List, [], ◌∷◌, Option, Some, None, option_and_then, if◌then◌else◌}
use Rattle.std.specs.Str.{bytes_eq}
use Rattle.line_text.specs.Lines.{Line, two_of}
use Rattle.line_text.specs.Number.{number_of}

abbrev pub tagged : List ℕ → List ℕ → Line
tagged tag word = tag ∷ word ∷ []

-- the word behind a tag
abbrev pub behind : List ℕ → Line → Option (List ℕ)
behind tag l = option_and_then (λ p. if bytes_eq p.0 tag then Some p.1 else None) (two_of l)

-- the number behind a tag
abbrev pub numbered_of : List ℕ → ℕ → Line → Option ℕ
numbered_of tag max l = option_and_then (λ w. number_of max w) (behind tag l)

-- whether a word is this one
abbrev pub exactly : List ℕ → List ℕ → Option (Unit {0})
exactly word w = if bytes_eq w word then Some tt else None

-- a line that is one tag and one word
abbrev pub exact_of : List ℕ → List ℕ → Line → Option (Unit {0})
exact_of tag word l = option_and_then (exactly word) (behind tag l)

-- a line that is one word
abbrev pub alone_of : List ℕ → Line → Option (Unit {0})
alone_of word l = option_and_then (exactly word) (Rattle.line_text.specs.Lines.one_of l)
