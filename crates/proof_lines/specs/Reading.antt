-- Lines of a proof, read from their words.
use Rattle.std.specs.Prelude.{ℕ, ◌+◌, Bool, true, false, not, ◌&&◌, ◌||◌, List, [], ◌∷◌, ◌++◌, Option, Some, None, option_map, option_and_then, Result, Ok, Err, ◌==◌, codes, is_some, if◌then◌else◌}
use Rattle.std.specs.Str.{bytes_eq}
use Rattle.cnf_core.specs.Literal.{Literal}
use Rattle.line_text.specs.Lines.{Line as Words, Source, source_of}
use Rattle.line_text.specs.Number.{number_of}
use Rattle.proof_lines.specs.Spelling.{PlainLine, Addition, Deletion}
use Rattle.proof_lines.specs.declared.error.LratError.{LratError}
use Rattle.proof_lines.specs.declared.error.LratError.TheVariants.{BadLine, RatHint}

-- a number from 1 to max
abbrev pub positive : ℕ → List ℕ → Option ℕ
positive max w = option_and_then (λ n. if n == 0 then None else Some n) (number_of max w)

abbrev pub id_of : List ℕ → Option ℕ
id_of w = positive 9223372036854775807 w

abbrev pub signed : Bool → ℕ → Literal
signed is_positive n = record { variable = n; positive = is_positive }

-- a number from 1 to max with its sign
unfoldable pub signed_of : ℕ → List ℕ → Option Literal
signed_of max [] = None
signed_of max (b ∷ bs) = if b == 45 then option_map (signed false) (positive max bs) else option_map (signed true) (positive max (b ∷ bs))

abbrev pub literal_of : List ℕ → Option Literal
literal_of w = signed_of 2147483647 w

abbrev pub hint_of : List ℕ → Option Literal
hint_of w = signed_of 9223372036854775807 w

-- values, a word each, up to the word 0, and the words behind it
abbrev pub to_zero : {X : Type 0} → (List ℕ → Option X) → List X → Words → Option (List X × Words)
to_zero f seen [] = None
to_zero f seen (w ∷ ws) = if bytes_eq w (codes "0") then Some (seen, ws) else option_and_then (λ x. to_zero f (seen ++ x ∷ []) ws) (f w)

abbrev pub only : {X : Type 0} → X → Words → Option X
only x [] = Some x
only x (w ∷ ws) = None

abbrev pub deletion_of : ℕ → Words → Option PlainLine
deletion_of id ws = option_and_then (λ a. only (Deletion id a.0) a.1) (to_zero id_of [] ws)

abbrev pub addition_of : ℕ → Words → Option PlainLine
addition_of id ws = option_and_then (λ a. option_and_then (λ b. only (Addition id a.0 b.0) b.1) (to_zero id_of [] a.1)) (to_zero literal_of [] ws)

abbrev pub behind_id : ℕ → Words → Option PlainLine
behind_id id [] = None
behind_id id (w ∷ ws) = if bytes_eq w (codes "d") then deletion_of id ws else addition_of id (w ∷ ws)

unfoldable pub lrat_of : Words → Option PlainLine
lrat_of [] = None
lrat_of (w ∷ ws) = option_and_then (λ id. behind_id id ws) (id_of w)

-- ---- lines with a negative hint

abbrev pub rat_next : Bool → Option Literal → (Bool → Bool) → Bool
rat_next seen None more = false
rat_next seen (Some h) more = more (seen || not h.positive)

abbrev pub is_nothing : Words → Bool
is_nothing [] = true
is_nothing (w ∷ ws) = false

-- hints with their signs up to the last word, which is 0, where one of them or one before is negative
abbrev pub are_rat_hints : Bool → Words → Bool
are_rat_hints seen [] = false
are_rat_hints seen (w ∷ ws) = if bytes_eq w (codes "0") then seen && is_nothing ws else rat_next seen (hint_of w) (λ now. are_rat_hints now ws)

abbrev pub rat_after : Option (List Literal × Words) → Bool
rat_after None = false
rat_after (Some a) = are_rat_hints false a.1

unfoldable pub is_rat : Words → Bool
is_rat [] = false
is_rat (w ∷ ws) = is_some (id_of w) && rat_after (to_zero literal_of [] ws)

-- ---- a whole text

-- why the line with this number is refused
abbrev pub fault_of : ℕ → Words → LratError
fault_of n l = if is_rat l then RatHint n else BadLine n

abbrev pub read_or_fault : Option PlainLine → LratError → Source → Result (PlainLine × Source) LratError
read_or_fault None fault left = Err fault
read_or_fault (Some x) fault left = Ok (x, left)

-- the next line, and what is left
abbrev pub next_of : ℕ → List Words → List ℕ → Result (PlainLine × Source) LratError
next_of n [] tail = Err (BadLine n)
next_of n (l ∷ ls) tail = read_or_fault (lrat_of l) (fault_of n l) (record { line = n + 1; lines = ls; tail = tail })

abbrev pub next_line : Source → Result (PlainLine × Source) LratError
next_line s = next_of s.line s.lines s.tail

abbrev pub onto : Option PlainLine → LratError → Result (List PlainLine) LratError → Result (List PlainLine) LratError
onto None fault more = Err fault
onto (Some x) fault (Ok xs) = Ok (x ∷ xs)
onto (Some x) fault (Err e) = Err e

-- all lines, of which the next has the number n
abbrev pub lines_of : ℕ → List Words → List ℕ → Result (List PlainLine) LratError
lines_of n [] [] = Ok []
lines_of n [] (b ∷ bs) = Err (BadLine n)
lines_of n (l ∷ ls) tail = onto (lrat_of l) (fault_of n l) (lines_of (n + 1) ls tail)

abbrev pub all_lines : Source → Result (List PlainLine) LratError
all_lines s = lines_of s.line s.lines s.tail

-- all lines of a text
unfoldable pub text_lines : List ℕ → Result (List PlainLine) LratError
text_lines text = all_lines (source_of 1 text)
