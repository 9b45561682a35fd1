-- The ports of a module, as inputs and registers of so many bits.
use Rattle.std.specs.Prelude.{ℕ, ◌+◌, ◌<◌, ◌≤◌, ◌^◌, Bool, true, false, List, [], ◌∷◌, ◌++◌, flat_map, map, Option, None, Some, option_map, cond, not, ◌&&◌, nat_lt, codes, decimal, get_or, ◌-◌}
use Rattle.std.proofs.Common.{◌⊎◌, inl, inr, refl}
use Rattle.std.proofs.lemmas.Bool.{cases_lt, ltb-true}
use Rattle.std.proofs.Math.Nat.{le_trans, lt_of_le_of_lt, le-add_right}
use Rattle.std.specs.Str.{bytes_eq}
use Rattle.vlog_tokens.specs.declared.number.Number.{Number}
use Rattle.vlog_tokens.specs.Numbers.{number_of}
use Rattle.vlog_syntax.specs.declared.expr.Expr.{Expr}
use Rattle.vlog_syntax.specs.declared.expr.Expr.TheVariants as expr
use Rattle.vlog_syntax.specs.declared.module.Range as written
use Rattle.vlog_syntax.specs.declared.module.Port.{Port}
use Rattle.vlog_syntax.specs.declared.module.Direction.{Direction}
use Rattle.vlog_syntax.specs.declared.module.Direction.TheVariants.{Input, Output}
use Rattle.vlog_syntax.specs.declared.module.NetKind.{NetKind}
use Rattle.vlog_syntax.specs.declared.module.NetKind.TheVariants.{Reg}
use Rattle.word_core.specs.Words as words
use Rattle.bit_exprs.specs.Values.{value_of, listed}
use Rattle.design_core.specs.declared.flat.BitInfo.{BitInfo}
use Rattle.design_core.specs.declared.flat.Declared.{Declared}
use Rattle.expr_elab.specs.declared.vectors.Range.{Range}
use Rattle.expr_elab.specs.Options.{and_then, with_both}
use Rattle.expr_elab.specs.Vectors.{Scope, is_rising, width_within, vector_width, bits_of}
use Rattle.expr_elab.specs.Elaboration.{assigned_of}
use Rattle.elab_flat.specs.declared.nets.Net.{Net}

-- ---- ranges (IEEE 1364-2001 clause 3.3)

-- a plain decimal, which alone is a signed number; it has 32 bits, and is below zero from 2^31 on
abbrev pub decimal_in : Number → Option ℕ
decimal_in n = cond (n.is_signed && nat_lt n.value (2 ^ 31)) (Some n.value) None

-- a bound of a range that is built is a plain decimal
abbrev pub bound_of : Expr → Option ℕ
bound_of (expr.Number n) = and_then decimal_in (number_of n.text)
bound_of _ = None

abbrev pub range_within : (l r : ℕ) → (l < r + 128) ⊎ (r + 128 ≤ l) → (r < l + 128) ⊎ (l + 128 ≤ r) → Option Range
range_within l r (inl falls) (inl rises) = Some (record { left = l; right = r; falls = falls; rises = rises })
range_within l r _ _ = None

-- the range between two bounds, where it has at most 128 indices
abbrev pub range_between : ℕ → ℕ → Option Range
range_between l r = range_within l r (cases_lt l (r + 128)) (cases_lt r (l + 128))

-- a port's range: none where the port has one bit; nothing where it isn't built
abbrev pub range_of : Option written.Range → Option (Option Range)
range_of None = Some None
range_of (Some r) = option_map (λ x. Some x) (with_both range_between (bound_of r.left) (bound_of r.right))

-- ---- ports

-- whether the port is an input: it is built where it is written `input NAME`, or `output reg NAME`, which alone may have a starting value
abbrev pub leads_in : Direction → Option NetKind → Option Expr → Option Bool
leads_in Input None None = Some true
leads_in Output (Some Reg) value = Some false
leads_in _ _ _ = None

-- the value that a port of so many bits starts with, which is constant: none where none is written; nothing where it isn't built
abbrev pub start_of : ℕ → Option Expr → Option (Option ℕ)
start_of width None = Some None
start_of width (Some e) = option_map (λ x. Some (value_of x [])) (assigned_of [] width e)

abbrev pub net_within : List ℕ → Bool → Option ℕ → (range : Option Range) (first : ℕ) → (65536 < first + width_within range) ⊎ (first + width_within range ≤ 65536) → Option Net
net_within name input start range first (inr few) =
    Some (record { name = name; input = input; start = start; vector = record { range = range; first = first; numbered = lt_of_le_of_lt (le_trans (le-add_right first (width_within range)) few) (ltb-true 65536 (2 ^ 31) refl) } })
net_within name input start range first (inl many) = None

-- a port whose bits are numbered on from `first`; there are at most 65,536 bits
abbrev pub net_at : ℕ → Port → Bool → Option Range → Option Net
net_at first p input range =
    and_then (λ start. net_within p.name.name input start range first (cases_lt 65536 (first + width_within range))) (start_of (width_within range) p.value)

abbrev pub net_of : ℕ → Port → Option Net
net_of first p = with_both (net_at first p) (leads_in p.direction p.kind p.value) (range_of p.range)

-- the ports in order, their bits numbered on from `first`, if each is built
abbrev pub nets_from : ℕ → List Port → Option (List Net)
nets_from first [] = Some []
nets_from first (p ∷ ps) = and_then (λ n. option_map (λ ns. n ∷ ns) (nets_from (first + vector_width n.vector) ps)) (net_of first p)

abbrev pub names_of : List Net → List (List ℕ)
names_of nets = map (λ (n : Net). n.name) nets

-- ---- names and bits

-- a name in a scope, as `t.q`
abbrev pub in_scope : List ℕ → List ℕ → List ℕ
in_scope path name = path ++ codes "." ++ name

-- the index of the bit at a place, counted from the least significant bit
abbrev pub index_at : Range → ℕ → ℕ
index_at r k = cond (is_rising r) (r.right - k) (r.right + k)

-- a vector's bit is named with its index, as `q[3]`
abbrev pub bit_name : List ℕ → Option Range → ℕ → List ℕ
bit_name name None k = name
bit_name name (Some r) k = name ++ codes "[" ++ decimal (index_at r k) ++ codes "]"

abbrev pub bit_start : ℕ → Option ℕ → ℕ → Option Bool
bit_start width start k = option_map (λ a. get_or (words.bits_of width a) k false) start

abbrev pub info_of : List ℕ → Net → ℕ → BitInfo
info_of path n k = record { name = bit_name (in_scope path n.name) n.vector.range k; start = bit_start (vector_width n.vector) n.start k }

abbrev pub declared_of : List ℕ → Net → ℕ → Declared
declared_of path n k = record { name = bit_name (in_scope path n.name) n.vector.range k; bit = n.vector.first + k; whole = in_scope path n.name }

-- what is made of each bit of the nets, in order, the least significant bit of a net first
abbrev pub each_of : {X : Type 0} → (Net → ℕ → X) → List Net → List X
each_of make nets = flat_map (λ (n : Net). listed (make n) 0 (vector_width n.vector)) nets

-- the bits of the nets that pass the test
abbrev pub bits_where : (Net → Bool) → List Net → List ℕ
bits_where test nets = flat_map (λ (n : Net). cond (test n) (bits_of n.vector) []) nets

abbrev pub is_data_input : List ℕ → Net → Bool
is_data_input clock n = n.input && not (bytes_eq n.name clock)

abbrev pub is_register : Net → Bool
is_register n = not n.input

-- what may be named: all but the clock
abbrev pub scope_of : List ℕ → List Net → Scope
scope_of clock nets = flat_map (λ (n : Net). cond (bytes_eq n.name clock) [] ((n.name, n.vector) ∷ [])) nets
