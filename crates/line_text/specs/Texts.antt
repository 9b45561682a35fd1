-- Which texts spell a value, and the first line of a text with which no value's text begins.
use Rattle.std.specs.Prelude.{◌≡◌, ℕ, ◌+◌, ◌-◌, ◌<◌, ◌≤◌, List, [], ◌∷◌, ◌++◌, length, take, Result, Ok, Err, if◌then◌else◌}
use Rattle.std.specs.List.{flat_map}
use Rattle.line_text.specs.Lines.{Line, Source, source_of, is_ended, text_of, whole_lines}
use Rattle.line_text.specs.Reading.{Read, ◌>>=◌}

-- what the text of some value begins with
abbrev pub Begins : {X : Type 0} → (X → List Line) → (X → Type 0) → List ℕ → Type 0
Begins {X} spell Fits front = (x : X) × (rest : List ℕ) × Fits x × (text_of (spell x) ≡ front ++ rest)

-- the first lines of a text, each with its line feed
abbrev pub first_lines : ℕ → List ℕ → List ℕ
first_lines count text = flat_map (λ l. l ++ 10 ∷ []) (take count (whole_lines text))

-- The lines before this one begin a value's text, and with it they don't. Where it has no line feed, or isn't there, the text ends too early, or a piece of a line too late.
pub record IsFirstBad {X : Type 0} (spell : X → List Line) (Fits : X → Type 0) (text : List ℕ) (line : ℕ) : Type 0 where
  pub low : 0 < line
  pub high : line ≤ length (whole_lines text) + 1
  pub before : Begins spell Fits (first_lines (line - 1) text)
  pub refused : line ≤ length (whole_lines text) → Begins spell Fits (first_lines line text) → ⊥
  pub never : (x : X) → Fits x → text ≡ text_of (spell x) → ⊥

-- all of a text, by a reader of lines
abbrev pub whole_by : {X : Type 0} → (Source → Read X) → List ℕ → Result X ℕ
whole_by {X} read text = read (source_of 1 text) >>= λ x. if is_ended x.1 then Ok x.0 else Err x.1.line
