-- Reading lines from the first on, with the number of the line where that fails.
use Rattle.std.specs.Prelude.{◌≡◌, ℕ, zero, suc, ◌+◌, ◌⊎◌, List, [], ◌∷◌, ◌++◌, Option, Some, None, option_map, Result, Ok, Err}
use Rattle.std.proofs.Common.{inl, inr}
use Rattle.line_text.specs.declared.error.LineError.{LineError}
use Rattle.line_text.specs.declared.error.LineError.TheVariants as errors
use Rattle.line_text.specs.Lines.{Line, Source}

-- a value and what is left, or the number of the bad line
abbrev pub Read : Type 0 → Type 0
Read X = Result (X × Source) ℕ

infixl 10 ◌>>=◌
abbrev pub ◌>>=◌ : {A B : Type 0} → Result A ℕ → (A → Result B ℕ) → Result B ℕ
(Ok x) >>= f = f x
(Err e) >>= f = Err e

-- What a function returned, seen by view, and what it left are what reading gives, unless memory ran out.
abbrev pub Fails : {Y : Type 0} → LineError → Result Y ℕ → Type 0
Fails errors.Memory read = Unit {0}
Fails (errors.BadLine line) read = read ≡ Err line

abbrev pub Gives : {X Y S : Type 0} → (X → Y) → S → Result X LineError → Result (Y × S) ℕ → Type 0
Gives view left (Ok x) read = read ≡ Ok (view x, left)
Gives view left (Err e) read = Fails e read

-- the same where nothing is left
abbrev pub Tells : {X : Type 0} → Result X LineError → Result X ℕ → Type 0
Tells (Ok x) read = read ≡ Ok x
Tells (Err e) read = Fails e read

abbrev pub first_line : ℕ → List Line → List ℕ → Read Line
first_line n [] tail = Err n
first_line n (l ∷ ls) tail = Ok (l, record { line = n + 1; lines = ls; tail = tail })

-- the next line
abbrev pub next : Source → Read Line
next s = first_line s.line s.lines s.tail

abbrev pub value_or_bad : {X : Type 0} → ℕ → Source → Option X → Read X
value_or_bad n s None = Err n
value_or_bad n s (Some x) = Ok (x, s)

-- a value that one line spells
abbrev pub line_by : {X : Type 0} → (Line → Option X) → Source → Read X
line_by f s = next s >>= λ l. value_or_bad s.line l.1 (f l.0)

-- count values, one after the other, with their numbers from i on
abbrev pub times : {X : Type 0} → ℕ → ℕ → (ℕ → Source → Read X) → Source → Read (List X)
times zero i r s = Ok ([], s)
times (suc k) i r s = r i s >>= λ x. times k (i + 1) r x.1 >>= λ xs. Ok (x.0 ∷ xs.0, xs.1)

abbrev pub after_item : {X Y R : Type 0} → (X → R) → (Y → R) → R → Option (X ⊎ Y) → R
after_item more done bad None = bad
after_item more done bad (Some (inl x)) = more x
after_item more done bad (Some (inr y)) = done y

-- values, a line each, up to a line that ends them; f is given the values before a line
abbrev pub until_from : {X Y : Type 0} → (List X → Line → Option (X ⊎ Y)) → List X → ℕ → List Line → List ℕ → Read (List X × Y)
until_from f seen n [] tail = Err n
until_from f seen n (l ∷ ls) tail = after_item (λ x. until_from f (seen ++ x ∷ []) (n + 1) ls tail) (λ y. Ok ((seen, y), record { line = n + 1; lines = ls; tail = tail })) (Err n) (f seen l)

abbrev pub until : {X Y : Type 0} → (List X → Line → Option (X ⊎ Y)) → Source → Read (List X × Y)
until f s = until_from f [] s.line s.lines s.tail

-- one of two kinds of line
abbrev pub or_else : {X : Type 0} → Option X → Option X → Option X
or_else None o = o
or_else (Some x) o = Some x

abbrev pub either_of : {X Y : Type 0} → Option X → Option Y → Option (X ⊎ Y)
either_of p q = or_else (option_map inl p) (option_map inr q)
