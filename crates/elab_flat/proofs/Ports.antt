-- Ports, as code builds them.
use Rattle.std.proofs.Common.{◌≡◌, ℕ, ◌+◌, ◌<◌, ◌≤◌, ◌^◌, inl, inr, ◌⊎◌, Bool, List, [], ◌∷◌, ◌++◌, length, get_or, drop, Option, None, Some, refl, sym, ap, ◌∙◌, subst, arith}
use Rattle.std.specs.Prelude.{option_map}
use Rattle.std.proofs.Math.Bridge.{le_prop}
use Rattle.std.proofs.lemmas.Bool.{cases_lt, ltb-true}
use Rattle.std.proofs.Math.Nat.{le_trans, lt_of_le_of_lt, le-add_right}
use Rattle.std.proofs.lemmas.List.{append_assoc, at_drop_more}
use Rattle.std.proofs.lemmas.Option.{none-some, same_Some}
use Rattle.vlog_syntax.specs.declared.expr.Expr.{Expr}
use Rattle.vlog_syntax.specs.declared.module.Port.{Port}
use Rattle.bit_exprs.specs.declared.forms.Expr as bits
use Rattle.bit_exprs.specs.Values.{value_of}
use Rattle.expr_elab.specs.declared.vectors.Range.{Range}
use Rattle.expr_elab.specs.declared.vectors.Vector.{Vector}
use Rattle.expr_elab.specs.Options.{and_then, with_both}
use Rattle.expr_elab.specs.Vectors.{Scope, width_within, vector_width}
use Rattle.expr_elab.specs.Elaboration.{assigned_of}
use Rattle.elab_flat.specs.declared.nets.Net.{Net}
use Rattle.elab_flat.specs.Nets.{range_within, range_between, range_of, leads_in, start_of, net_within, net_at, net_of, nets_from}
use Rattle.elab_flat.proofs.Inverses.{made_from, both_from}

-- ---- ranges

same_range : (x : Range) (l r : ℕ) (falls : l < r + 128) (rises : r < l + 128) → x.left ≡ l → x.right ≡ r → x ≡ record { left = l; right = r; falls = falls; rises = rises }
same_range x l r falls rises e f =
    subst (λ m. (p : m < r + 128) (q : r < m + 128) → x ≡ record { left = m; right = r; falls = p; rises = q }) e
    (subst (λ n. (p : x.left < n + 128) (q : n < x.left + 128) → x ≡ record { left = x.left; right = n; falls = p; rises = q }) f
    (λ p q j. record { left = x.left; right = x.right; falls = le_prop x.falls p j; rises = le_prop x.rises q j })) falls rises

pub range_is : (x : Range) (l r : ℕ) → x.left ≡ l → x.right ≡ r → Some x ≡ range_between l r
range_is x l r e f = by (cases_lt l (r + 128)) (cases_lt r (l + 128))
  where
    by : (a : (l < r + 128) ⊎ (r + 128 ≤ l)) (b : (r < l + 128) ⊎ (l + 128 ≤ r)) → Some x ≡ range_within l r a b
    by (inl falls) (inl rises) = ap Some (same_range x l r falls rises e f)
    by (inl falls) (inr far) = let near = x.rises in absurd (omega arith)
    by (inr far) b = let near = x.falls in absurd (omega arith)

-- ---- starting values

pub start_is : (width : ℕ) (value : Option Expr) (e : Expr) (scope : Scope) (x : bits.Expr) (b : ℕ) → value ≡ Some e → scope ≡ [] → Some x ≡ assigned_of scope width e → b ≡ value_of x [] →
    Some (Some b) ≡ start_of width value
start_is width value e scope x b is empty built eb =
    ap (λ k. Some (Some k)) eb ∙ ap (option_map (λ y. Some (value_of y []))) (built ∙ ap (λ s. assigned_of s width e) empty) ∙ sym (ap (start_of width) is)

-- ---- nets

same_vector : (x : Vector) (range : Option Range) (first : ℕ) (numbered : first < 2 ^ 31) → x.range ≡ range → x.first ≡ first → x ≡ record { range = range; first = first; numbered = numbered }
same_vector x range first numbered e f =
    subst (λ n. (p : n < 2 ^ 31) → x ≡ record { range = range; first = n; numbered = p }) f
    (λ p j. record { range = e j; first = x.first; numbered = le_prop x.numbered p j }) numbered

net_within_is : (n : Net) (first : ℕ) (w : (65536 < first + vector_width n.vector) ⊎ (first + vector_width n.vector ≤ 65536)) → n.vector.first ≡ first → first + vector_width n.vector ≤ 65536 →
    Some n ≡ net_within n.name n.input n.start n.vector.range first w
net_within_is n first (inl many) at few = absurd (omega arith)
net_within_is n first (inr few') at few =
    let numbered : first < 2 ^ 31 = lt_of_le_of_lt (le_trans (le-add_right first (vector_width n.vector)) few') (ltb-true 65536 (2 ^ 31) refl) in
    λ j. Some (record { name = n.name; vector = same_vector n.vector n.vector.range first numbered refl at j; input = n.input; start = n.start })

-- a port that is built
pub net_is : (first : ℕ) (p : Port) (n : Net) → n.name ≡ p.name.name → Some n.input ≡ leads_in p.direction p.kind p.value → Some n.vector.range ≡ range_of p.range → n.vector.first ≡ first →
    Some n.start ≡ start_of (vector_width n.vector) p.value → first + vector_width n.vector ≤ 65536 → Some n ≡ net_of first p
net_is first p n name input range at start few =
    net_within_is n first (cases_lt 65536 (first + vector_width n.vector)) at few
    ∙ ap (λ name. net_within name n.input n.start n.vector.range first (cases_lt 65536 (first + vector_width n.vector))) name
    ∙ ap (and_then (λ start. net_within p.name.name n.input start n.vector.range first (cases_lt 65536 (first + vector_width n.vector)))) start
    ∙ (λ j. with_both (net_at first p) (input j) (range j))

within_limit : (name : List ℕ) (input : Bool) (start : Option ℕ) (range : Option Range) (first : ℕ) (w : (65536 < first + width_within range) ⊎ (first + width_within range ≤ 65536)) (n : Net) →
    net_within name input start range first w ≡ Some n → (n.vector.first ≡ first) × (first + vector_width n.vector ≤ 65536)
within_limit name input start range first (inl many) n is = absurd (none-some n is)
within_limit name input start range first (inr few) n is =
    let same = same_Some _ n is in
    (sym (ap (λ (x : Net). x.vector.first) same), subst (λ (r : Option Range). first + width_within r ≤ 65536) (ap (λ (x : Net). x.vector.range) same) few)

-- its bits stand below the limit
pub net_limit : (first : ℕ) (p : Port) (n : Net) → net_of first p ≡ Some n → (n.vector.first ≡ first) × (first + vector_width n.vector ≤ 65536)
net_limit first p n is =
    let (input, range, is_input, is_range, made) = both_from (net_at first p) (leads_in p.direction p.kind p.value) (range_of p.range) n is in
    let (start, is_start, found) = made_from (λ start. net_within p.name.name input start range first (cases_lt 65536 (first + width_within range))) (start_of (width_within range) p.value) n made in
    within_limit p.name.name input start range first (cases_lt 65536 (first + width_within range)) n found

-- ---- nets one after another

-- what is made already, before the rest
abbrev pub before : List Net → Option (List Net) → Option (List Net)
before made rest = option_map (λ ns. made ++ ns) rest

abbrev then_rest : Net → Option (List Net) → Option (List Net)
then_rest n rest = option_map (λ ns. n ∷ ns) rest

before_more : (made later : List Net) (n : Net) (rest : Option (List Net)) → later ≡ made ++ n ∷ [] → before later rest ≡ before made (then_rest n rest)
before_more made later n None grown = refl
before_more made later n (Some r) grown = ap Some (ap (λ xs. xs ++ r) grown ∙ append_assoc made (n ∷ []) r)

-- the nets that are made, with those of the rest of the ports, are those of all
abbrev pub Nets : List Net → ℕ → List Port → List Port → Type 0
Nets made first rest all = before made (nets_from first rest) ≡ nets_from 0 all

module _ (all : List Port) (k first : ℕ) (p : Port) (made : List Net) (at : p ≡ get_or all k p) (lt : k < length all) (h : Nets made first (drop k all) all) where
  abbrev behind_one : Option Net → Option (List Net)
  behind_one o = before made (and_then (λ n. then_rest n (nets_from (first + vector_width n.vector) (drop (k + 1) all))) o)

  split : behind_one (net_of first p) ≡ nets_from 0 all
  split = ap (λ x. behind_one (net_of first x)) at ∙ sym (at_drop_more (λ rest. before made (nets_from first rest)) all k p lt) ∙ h

  pub nets_more : (n : Net) (later : List Net) (next : ℕ) → Some n ≡ net_of first p → later ≡ made ++ n ∷ [] → next ≡ first + vector_width n.vector → Nets later next (drop (k + 1) all) all
  nets_more n later next is grown from =
      ap (λ f. before later (nets_from f (drop (k + 1) all))) from ∙ before_more made later n (nets_from (first + vector_width n.vector) (drop (k + 1) all)) grown ∙ ap behind_one is ∙ split
