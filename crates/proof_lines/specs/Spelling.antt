-- How the lines of a proof are spelled, by the LRAT paper (Cruz-Filipe, Heule, Hunt, Kaufmann, Schneider-Kamp 2017),
-- without RAT: `id literals 0 hints 0` and `id d ids 0`, one space between two words, a line feed at the end.
use Rattle.std.specs.Prelude.{◌≡◌, ℕ, ◌<◌, ◌^◌, true, not, List, [], ◌∷◌, ◌++◌, map, codes, decimal, if◌then◌else◌}
use Rattle.std.specs.List.{list_any, AllByRecursion}
use Rattle.cnf_core.specs.Literal.{Literal}
use Rattle.cnf_core.specs.declared.Line.{Line}
use Rattle.cnf_core.specs.declared.Line.TheVariants.{Add, Delete}
use Rattle.line_text.specs.Lines.{Line as Words, text_of}

-- what a line says: the number and the clause of an addition with its hints, or the number of a deletion with those of the clauses
pub data PlainLine : Type 0 where
  Addition : ℕ → List Literal → List ℕ → PlainLine
  Deletion : ℕ → List ℕ → PlainLine

abbrev pub plain : Line → PlainLine
plain (Add id lits hints) = Addition id lits.items hints.items
plain (Delete id ids) = Deletion id ids.items

-- a number with its sign
abbrev pub literal_word : Literal → List ℕ
literal_word l = if l.positive then decimal l.variable else 45 ∷ decimal l.variable

abbrev pub addition_words : ℕ → List Literal → List ℕ → Words
addition_words id lits hints = decimal id ∷ map literal_word lits ++ codes "0" ∷ map decimal hints ++ codes "0" ∷ []

abbrev pub deletion_words : ℕ → List ℕ → Words
deletion_words id ids = decimal id ∷ codes "d" ∷ map decimal ids ++ codes "0" ∷ []

abbrev pub line_words : PlainLine → Words
line_words (Addition id lits hints) = addition_words id lits hints
line_words (Deletion id ids) = deletion_words id ids

-- the text of lines
abbrev pub spelling : List PlainLine → List ℕ
spelling lines = text_of (map line_words lines)

-- ---- which lines the format can hold

abbrev pub IsId : ℕ → Type 0
IsId n = (0 < n) × (n < 2 ^ 63)

abbrev pub IsLiteral : Literal → Type 0
IsLiteral l = (0 < l.variable) × (l.variable < 2 ^ 31)

abbrev pub Fits : PlainLine → Type 0
Fits (Addition id lits hints) = IsId id × AllByRecursion IsLiteral lits × AllByRecursion IsId hints
Fits (Deletion id ids) = IsId id × AllByRecursion IsId ids

-- ---- lines that the full format has and that are refused

-- an addition whose hints have signs
pub record RatLine : Type 0 where
  pub id : ℕ
  pub lits : List Literal
  pub hints : List Literal

abbrev pub rat_words : RatLine → Words
rat_words x = decimal x.id ∷ map literal_word x.lits ++ codes "0" ∷ map literal_word x.hints ++ codes "0" ∷ []

-- its numbers are in range, and a hint is negative
pub record IsRat (x : RatLine) : Type 0 where
  pub id : IsId x.id
  pub lits : AllByRecursion IsLiteral x.lits
  pub hints : AllByRecursion (λ h. IsId h.variable) x.hints
  pub negative : list_any (λ h. not h.positive) x.hints ≡ true
