-- Vectors, their indices and their bits (IEEE 1364-2001 clause 3.3).
use Rattle.std.specs.Prelude.{ℕ, ◌+◌, ◌-◌, ◌≤◌, nat_lt, Bool, false, ◌||◌, List, [], ◌∷◌, Option, None, Some, All}
use Rattle.std.specs.Str.{bytes_eq}
use Rattle.std.specs.Map.{lookup}
use Rattle.bit_exprs.specs.Values.{listed}
use Rattle.bit_exprs.specs.Named.{among}
use Rattle.expr_elab.specs.declared.vectors.Range.{Range}
use Rattle.expr_elab.specs.declared.vectors.Vector.{Vector}

-- how many indices a range has
abbrev pub range_width : Range → ℕ
range_width r = r.left - r.right + (r.right - r.left) + 1

-- the indices rise towards the least significant bit; those of [0:0] don't
abbrev pub is_rising : Range → Bool
is_rising r = nat_lt r.left r.right

-- a scalar has one bit
abbrev pub width_within : Option Range → ℕ
width_within None = 1
width_within (Some r) = range_width r

abbrev pub vector_width : Vector → ℕ
vector_width v = width_within v.range

-- the bits, the least significant one first
abbrev pub bits_of : Vector → List ℕ
bits_of v = listed (λ k. v.first + k) 0 (vector_width v)

-- ---- scopes: names with what they stand for, in the order in which they are declared

abbrev pub Scope : Type 0
Scope = List (List ℕ × Vector)

abbrev pub vector_of : Scope → List ℕ → Option Vector
vector_of scope name = lookup (bytes_eq name) scope

-- each bit is below n
abbrev pub IsWithin : Scope → ℕ → Type 0
IsWithin scope n = All (λ e. e.1.first + vector_width e.1 ≤ n) scope

-- some vector has bit b
abbrev pub names : Scope → ℕ → Bool
names [] b = false
names (e ∷ es) b = among (bits_of e.1) b || names es b
