-- Selects: which bits of a vector they name (IEEE 1364-2001 clause 4.2.1).
use Rattle.std.specs.Prelude.{ℕ, zero, suc, ◌+◌, ◌-◌, ◌^◌, min, nat_lt, nat_le, Bool, false, cond, List, [], ◌∷◌, Option, Some, None, slice_get, option_map}
use Rattle.bit_exprs.specs.declared.forms.Expr.{Expr, Select, Binary}
use Rattle.bit_exprs.specs.declared.forms.Expr.TheVariants.{Const, Read}
use Rattle.bit_exprs.specs.declared.forms.BinaryOp.TheVariants.{Join}
use Rattle.bit_exprs.specs.declared.forms.Window.{Window}
use Rattle.bit_exprs.specs.Values.{listed}
use Rattle.expr_elab.specs.declared.vectors.Range.{Range}
use Rattle.expr_elab.specs.declared.vectors.Vector.{Vector}
use Rattle.expr_elab.specs.declared.built.Built.{Built}
use Rattle.expr_elab.specs.declared.built.Fixed.{Fixed}
use Rattle.expr_elab.specs.declared.built.Fixed.TheVariants.{Up, Down}
use Rattle.expr_elab.specs.declared.built.Picked.{Picked}
use Rattle.expr_elab.specs.declared.built.Picked.TheVariants.{Bit, Bounds, Counted}
use Rattle.expr_elab.specs.declared.built.Choice.{Choice}
use Rattle.expr_elab.specs.Options.{and_then, with_both, all_there}
use Rattle.expr_elab.specs.Numbers.{fixed, count_of, count_within, zero_bit}
use Rattle.expr_elab.specs.Vectors.{is_rising, bits_of, vector_width}

-- ---- which window, at which index

abbrev pub window_of : Range → Bool → ℕ → Window
window_of r down count = record { rising = is_rising r; right = r.right; down = down; count = count }

abbrev pub choice : Range → Bool → Built → ℕ → Choice
choice r down index count = record { window = window_of r down count; index = index }

-- how many indices there are from one to another; none where that one is less
abbrev pub count_between : ℕ → ℕ → Option ℕ
count_between a b = cond (nat_le a b) (count_within (b - a + 1)) None

abbrev pub indices_from : Fixed → Fixed → Option ℕ
indices_from (Up a) (Up b) = count_between a b
indices_from (Up a) (Down b) = None
indices_from (Down a) (Up b) = count_within (a + b + 1)
indices_from (Down a) (Down b) = count_between b a

abbrev pub bounds_count : Built → Built → Option ℕ
bounds_count least greatest = with_both indices_from (fixed least) (fixed greatest)

-- [left:right], from the least index on
abbrev pub bounded : Range → Built → Built → Option Choice
bounded r left right =
    cond (is_rising r) (option_map (choice r false left) (bounds_count left right)) (option_map (choice r false right) (bounds_count right left))

abbrev pub fixed_count : Built → Option ℕ
fixed_count x = and_then count_of (fixed x)

abbrev pub choice_of : Range → Picked → Option Choice
choice_of r (Bit x) = Some (choice r false x 1)
choice_of r (Bounds left right) = bounded r left right
choice_of r (Counted base count down) = option_map (choice r down base) (fixed_count count)

-- ---- selects with a constant index

-- An index is a difference of two numbers. One that is 2^127 or more from zero lies outside each vector, and is taken as if it were 2^127 from it.
abbrev pub above : Fixed → ℕ
above (Up a) = min a (2 ^ 127)
above (Down a) = 0

abbrev pub beneath : Fixed → ℕ
beneath (Up a) = 0
beneath (Down a) = min a (2 ^ 127)

-- The place of bit k is a difference too: index i stands at place |i - right|.
abbrev pub place_up : Window → Fixed → ℕ → ℕ
place_up window i k = k + cond window.rising (window.right + beneath i) (above i)

abbrev pub place_down : Window → Fixed → ℕ
place_down window i =
    cond window.rising (above i + cond window.down 0 (window.count - 1)) (beneath i + window.right + cond window.down (window.count - 1) 0)

-- bit k of what is selected of a vector, if it lies inside
abbrev pub bit_named : List ℕ → Window → Fixed → ℕ → Option ℕ
bit_named bits window i k =
    cond (nat_lt (place_up window i k) (place_down window i)) None (slice_get bits (place_up window i k - place_down window i))

abbrev pub bits_named : List ℕ → Window → Fixed → Option (List ℕ)
bits_named bits window i = all_there (listed (bit_named bits window i) 0 window.count)

-- ---- the expression

-- what lies outside reads as 0
abbrev pub bit_read : Option ℕ → Expr
bit_read (Some b) = Read (b ∷ [])
bit_read None = Const zero_bit false

-- bits 0 to k
abbrev pub joined_to : (ℕ → Option ℕ) → ℕ → Expr
joined_to named zero = bit_read (named 0)
joined_to named (suc k) = Binary Join (bit_read (named (suc k))) (joined_to named k)

-- the bits where all lie inside, else bit by bit
abbrev pub read_of : Option (List ℕ) → (ℕ → Option ℕ) → ℕ → Expr
read_of (Some bits) named count = Read bits
read_of None named count = joined_to named (count - 1)

abbrev pub select_of : List ℕ → Choice → Option Fixed → Expr
select_of bits choice (Some i) = read_of (bits_named bits choice.window i) (bit_named bits choice.window i) choice.window.count
select_of bits choice None = Select bits choice.window choice.index.expr

abbrev pub selected : Vector → Choice → Built
selected v choice = record { expr = select_of (bits_of v) choice (fixed choice.index); width = choice.window.count; signed = false; constant = false }

-- a scalar has no select
abbrev pub select_built : Vector → Picked → Option Built
select_built v picked = option_map (selected v) (and_then (λ r. choice_of r picked) v.range)

-- the whole vector
abbrev pub whole : Vector → Built
whole v = record { expr = Read (bits_of v); width = vector_width v; signed = false; constant = false }
