-- The names of a design's bits: what they are made of, and that they are distinct.
use Rattle.std.proofs.Common.{◌≡◌, ◌≢◌, ℕ, zero, suc, ◌+◌, ◌-◌, ◌<◌, ◌≤◌, ◌^◌, nat_lt, Bool, true, false, cond, ◌&&◌, ◌⊎◌, inl, inr, List, [], ◌∷◌, ◌++◌, map, get_or, length, Option, None, Some, refl, sym, ap, ◌∙◌, subst, arith, codes, decimal}
use Rattle.std.specs.Prelude.{All, Contains, slice_get, option_map}
use Rattle.std.proofs.lemmas.Bool.{cases_lt, ltb-true}
use Rattle.std.proofs.lemmas.Fmt.{decimal_injective}
use Rattle.std.proofs.lemmas.List.{append-nil, append_assoc, append_cancel_left, append_cancel_right}
use Rattle.std.proofs.lemmas.List.Elements.{All-head, All-tail}
use Rattle.std.proofs.lemmas.Option.{none-some, same_Some, slice_get-map, slice_get_within, slice_get-get_or, get_or_from_slice_get}
use Rattle.vlog_tokens.specs.declared.number.Number.{Number}
use Rattle.vlog_tokens.specs.Numbers.{number_of}
use Rattle.vlog_syntax.specs.declared.expr.Expr.{Expr}
use Rattle.vlog_syntax.specs.declared.expr.Expr.TheVariants as expr
use Rattle.vlog_syntax.specs.declared.module.Range as written
use Rattle.vlog_syntax.specs.declared.module.Tree.{Tree}
use Rattle.vlog_syntax.specs.declared.module.Module.{Module}
use Rattle.vlog_syntax.specs.declared.module.Port.{Port}
use Rattle.bit_exprs.specs.Values.{listed}
use Rattle.design_core.specs.declared.setup.Setup.{Setup}
use Rattle.design_core.specs.declared.flat.BitInfo.{BitInfo}
use Rattle.design_core.specs.declared.flat.Design.{Design}
use Rattle.design_core.specs.Legality.{IsLegal}
use Rattle.design_core.proofs.Settling.{some-Contains, Contains-some}
use Rattle.expr_elab.specs.declared.vectors.Range.{Range}
use Rattle.expr_elab.specs.Vectors.{range_width, width_within, vector_width, is_rising}
use Rattle.elab_flat.specs.declared.nets.Net.{Net}
use Rattle.elab_flat.specs.Nets.{decimal_in, bound_of, range_within, range_between, range_of, net_of, nets_from, in_scope, index_at, bit_name, info_of, each_of}
use Rattle.elab_flat.specs.Designs.{AreDistinct, IsModuleDesign, IsDesignOf}
use Rattle.elab_flat.proofs.Inverses.{mapped_from, made_from, both_from}
use Rattle.elab_flat.proofs.NetBits.{IsNetOf, net_is, Laid, laid}
use Rattle.elab_flat.proofs.OneDesign.{name_at}
use Rattle.elab_flat.proofs.LegalDesigns.{design_is_legal}

-- ---- indices

decimal_small : (n : Number) (b : ℕ) → decimal_in n ≡ Some b → b < 2 ^ 31
decimal_small n b h = by n.is_signed (nat_lt n.value (2 ^ 31)) refl h
  where
    by : (signed small : Bool) → nat_lt n.value (2 ^ 31) ≡ small → cond (signed && small) (Some n.value) None ≡ Some b → b < 2 ^ 31
    by true true e h = subst (λ x. x < 2 ^ 31) (same_Some n.value b h) (ltb-true n.value (2 ^ 31) e)
    by true false e h = absurd (none-some b h)
    by false small e h = absurd (none-some b h)

bound_small : (e : Expr) (b : ℕ) → bound_of e ≡ Some b → b < 2 ^ 31
bound_small (expr.Number n) b h = let (x, is, made) = made_from decimal_in (number_of n.text) b h in decimal_small x b made
bound_small _ b h = absurd (none-some b h)

between_right : (l r : ℕ) (x : Range) → range_between l r ≡ Some x → x.right ≡ r
between_right l r x h = by (cases_lt l (r + 128)) (cases_lt r (l + 128)) h
  where
    by : (a : (l < r + 128) ⊎ (r + 128 ≤ l)) (b : (r < l + 128) ⊎ (l + 128 ≤ r)) → range_within l r a b ≡ Some x → x.right ≡ r
    by (inl falls) (inl rises) e = sym (ap (λ (y : Range). y.right) (same_Some _ x e))
    by (inl falls) (inr far) e = absurd (none-some x e)
    by (inr far) b e = absurd (none-some x e)

range_small : (o : Option written.Range) (r : Range) → range_of o ≡ Some (Some r) → r.right < 2 ^ 31
range_small None r h = absurd (none-some r (same_Some None (Some r) h))
range_small (Some w) r h =
    let (x, is, same) = mapped_from (λ (x : Range). Some x) _ (Some r) h in
    let (a, b, is_a, is_b, between) = both_from range_between (bound_of w.left) (bound_of w.right) x is in
    subst (λ n. n < 2 ^ 31) (sym (between_right a b x between) ∙ ap (λ (y : Range). y.right) (same_Some x r same)) (bound_small w.right b is_b)

index_small : (r : Range) (k : ℕ) → r.right < 2 ^ 31 → k < range_width r → index_at r k < 2 ^ 32
index_small r k small lt = by (is_rising r)
  where
    by : (t : Bool) → cond t (r.right - k) (r.right + k) < 2 ^ 32
    by true = omega (arith, small)
    by false = omega (arith, small, lt, r.falls, r.rises)

one_place : (r : Range) (j k : ℕ) → j < range_width r → k < range_width r → index_at r j ≡ index_at r k → j ≡ k
one_place r j k lt_j lt_k e = by (nat_lt r.left r.right) refl e
  where
    by : (t : Bool) → nat_lt r.left r.right ≡ t → cond t (r.right - j) (r.right + j) ≡ cond t (r.right - k) (r.right + k) → j ≡ k
    by true up e = let rises = ltb-true r.left r.right up in omega (arith, rises, lt_j, lt_k, e)
    by false down e = omega (arith, e)

-- ---- where the bits of nets stand

-- what is made of a bit of the nets
record Stands {X : Type 0} (make : Net → ℕ → X) (nets : List Net) (first j : ℕ) (x : X) : Type 0 where
  net : ℕ
  n : Net
  at : slice_get nets net ≡ Some n
  k : ℕ
  inside : k < vector_width n.vector
  is : make n k ≡ x
  place : first + j ≡ n.vector.first + k

module _ {X : Type 0} (make : Net → ℕ → X) where
  listed_at : (n : Net) (k w : ℕ) (rest : List X) (j : ℕ) → j < w → slice_get (listed (make n) k w ++ rest) j ≡ Some (make n (k + j))
  listed_at n k zero rest j lt = absurd (omega (arith, lt))
  listed_at n k (suc w) rest zero lt = ap (λ i. Some (make n i)) (omega arith)
  listed_at n k (suc w) rest (suc j) lt = listed_at n (suc k) w rest j (omega (arith, lt)) ∙ ap (λ i. Some (make n i)) (omega arith)

  listed_past : (n : Net) (k w : ℕ) (rest : List X) (j : ℕ) → w ≤ j → slice_get (listed (make n) k w ++ rest) j ≡ slice_get rest (j - w)
  listed_past n k zero rest j le = ap (slice_get rest) (omega arith)
  listed_past n k (suc w) rest zero le = absurd (omega (arith, le))
  listed_past n k (suc w) rest (suc j) le = listed_past n (suc k) w rest j (omega (arith, le)) ∙ ap (slice_get rest) (omega arith)

  each_at : (first last : ℕ) (nets : List Net) → Laid first nets last → (j : ℕ) (x : X) → slice_get (each_of make nets) j ≡ Some x → Stands make nets first j x
  each_at first last [] in_order j x h = absurd (none-some x h)
  each_at first last (n ∷ ns) in_order j x h = by (cases_lt j (vector_width n.vector)) (λ i e. each_at (first + vector_width n.vector) last ns in_order.1 i x e)
    where
      by : (j < vector_width n.vector) ⊎ (vector_width n.vector ≤ j) → ((i : ℕ) → slice_get (each_of make ns) i ≡ Some x → Stands make ns (first + vector_width n.vector) i x) →
          Stands make (n ∷ ns) first j x
      by (inl lt) rest = record {
        net = 0;
        n = n;
        at = refl;
        k = j;
        inside = lt;
        is = ap (make n) (omega arith) ∙ same_Some (make n (0 + j)) x (sym (listed_at n 0 (vector_width n.vector) (each_of make ns) j lt) ∙ h);
        place = omega (arith, in_order.0);
      }
      by (inr le) rest =
          let s = rest (j - vector_width n.vector) (sym (listed_past n 0 (vector_width n.vector) (each_of make ns) j le) ∙ h) in
          let there = s.place in
          record { net = suc s.net; n = s.n; at = s.at; k = s.k; inside = s.inside; is = s.is; place = omega (arith, there, le) }

-- the port of a net
net_port : (first : ℕ) (ps : List Port) (nets : List Net) (k : ℕ) (n : Net) → nets_from first ps ≡ Some nets → slice_get nets k ≡ Some n →
    (p : Port) × (slice_get ps k ≡ Some p) × (own : ℕ) × IsNetOf own p n
net_port first [] nets k n h at = absurd (none-some n (ap (λ ns. slice_get ns k) (same_Some [] nets h) ∙ at))
net_port first (p ∷ ps) nets k n h at =
    let (x, is_net, rest) = made_from (λ (n : Net). option_map (λ ns. n ∷ ns) (nets_from (first + vector_width n.vector) ps)) (net_of first p) nets h in
    let (xs, is_rest, whole) = mapped_from (λ ns. x ∷ ns) (nets_from (first + vector_width x.vector) ps) nets rest in
    by x xs k is_net (ap (λ ns. slice_get ns k) whole ∙ at) (λ i e. net_port (first + vector_width x.vector) ps xs i n is_rest e)
  where
    by : (x : Net) (xs : List Net) (k : ℕ) → net_of first p ≡ Some x → slice_get (x ∷ xs) k ≡ Some n →
        ((i : ℕ) → slice_get xs i ≡ Some n → (q : Port) × (slice_get ps i ≡ Some q) × (own : ℕ) × IsNetOf own q n) →
        (q : Port) × (slice_get (p ∷ ps) k ≡ Some q) × (own : ℕ) × IsNetOf own q n
    by x xs zero is_net at rest = (p, refl, first, subst (IsNetOf first p) (same_Some x n at) (net_is first p x is_net))
    by x xs (suc i) is_net at rest = rest i at

-- ---- what names are made of

-- the name of a port in the module's scope, or this name with an index
pub record IsBitName (m : Module) (name : List ℕ) : Type 0 where
  pub port : Port
  pub there : Contains m.ports port
  pub made : (name ≡ in_scope m.name.name port.name.name) ⊎ ((i : ℕ) × (i < 2 ^ 32) × (name ≡ in_scope m.name.name port.name.name ++ codes "[" ++ decimal i ++ codes "]"))

-- bytes behind a name: none, or those of an index
abbrev suffix : Option Range → ℕ → List ℕ
suffix None k = []
suffix (Some r) k = codes "[" ++ decimal (index_at r k) ++ codes "]"

with_suffix : (name : List ℕ) (r : Option Range) (k : ℕ) → bit_name name r k ≡ name ++ suffix r k
with_suffix name None k = sym (append-nil name)
with_suffix name (Some r) k =
    let index = decimal (index_at r k) in
    ap (λ bytes. bytes ++ codes "]") (append_assoc name (codes "[") index) ∙ append_assoc name (codes "[" ++ index) (codes "]")

abbrev BitName : List ℕ → List ℕ → List ℕ → Type 0
BitName path name whole = (whole ≡ in_scope path name) ⊎ ((i : ℕ) × (i < 2 ^ 32) × (whole ≡ in_scope path name ++ codes "[" ++ decimal i ++ codes "]"))

made_name : (path name : List ℕ) (o : Option written.Range) (r : Option Range) (k : ℕ) → range_of o ≡ Some r → k < width_within r → BitName path name (bit_name (in_scope path name) r k)
made_name path name o None k is lt = inl refl
made_name path name o (Some r) k is lt = inr (index_at r k, index_small r k (range_small o r is) lt, refl)

module _ (m : Module) (setup : Setup) (d : Design) (is : IsModuleDesign m setup d) where
  abbrev path : List ℕ
  path = m.name.name

  abbrev Bit : ℕ → BitInfo → Type 0
  Bit j x = Stands (info_of path) is.nets 0 j x

  bit_at : (j : ℕ) (x : BitInfo) → slice_get d.bits j ≡ Some x → Bit j x
  bit_at j x at = each_at (info_of path) 0 (laid 0 m.ports is.nets is.ports).0 is.nets (laid 0 m.ports is.nets is.ports).1 j x (ap (λ (e : Design). slice_get e.bits j) (sym is.is) ∙ at)

  port_at : (j : ℕ) (x : BitInfo) (s : Bit j x) → (p : Port) × (slice_get m.ports s.net ≡ Some p) × (own : ℕ) × IsNetOf own p s.n
  port_at j x s = net_port 0 m.ports is.nets s.net s.n is.ports s.at

  bit_named : (j : ℕ) (x : BitInfo) → slice_get d.bits j ≡ Some x → IsBitName m x.name
  bit_named j x at =
      let s = bit_at j x at in
      let (p, there, own, of) = port_at j x s in
      record {
        port = p;
        there = Contains-some m.ports s.net p there;
        made = subst (BitName path p.name.name) (ap (λ name. bit_name (in_scope path name) s.n.vector.range s.k) (sym of.name_is) ∙ ap (λ (i : BitInfo). i.name) s.is)
            (made_name path p.name.name p.range s.n.vector.range s.k of.range_is s.inside);
      }

  clock_port : (p : Port) × Contains m.ports p × (p.name.name ≡ setup.clock)
  clock_port =
      let (k, at) = some-Contains is.nets is.clock is.clocked.0 in
      let (p, there, own, of) = net_port 0 m.ports is.nets k is.clock is.ports at in
      (p, Contains-some m.ports k p there, sym of.name_is ∙ is.clocked.1)

-- each bit is named so
pub bits_named : (tree : Tree) (setup : Setup) (d : Design) (is : IsDesignOf tree setup d) → All (λ (x : BitInfo). IsBitName is.0 x.name) d.bits
bits_named tree setup d is k x lt = bit_named is.0 setup d is.2 k (get_or d.bits k x) (slice_get-get_or d.bits k x lt)

-- and the clock is named as a port
pub clock_named : (tree : Tree) (setup : Setup) (d : Design) (is : IsDesignOf tree setup d) → (p : Port) × Contains is.0.ports p × (p.name.name ≡ setup.clock)
clock_named tree setup d is = clock_port is.0 setup d is.2

-- ---- names are distinct

-- no byte is `[`
abbrev pub HasNoBracket : List ℕ → Type 0
HasNoBracket name = All (λ b. b ≢ 91) name

abbrev IsBehind : List ℕ → Type 0
IsBehind [] = Unit {0}
IsBehind (x ∷ xs) = x ≡ 91

suffix_behind : (r : Option Range) (k : ℕ) → IsBehind (suffix r k)
suffix_behind None k = tt
suffix_behind (Some r) k = refl

cut : (a b u v : List ℕ) → HasNoBracket a → HasNoBracket b → IsBehind u → IsBehind v → a ++ u ≡ b ++ v → (a ≡ b) × (u ≡ v)
cut [] [] u v lacks_a lacks_b h k e = (refl, e)
cut [] (y ∷ b) [] v lacks_a lacks_b h k e = cc
cut [] (y ∷ b) (x ∷ u) v lacks_a lacks_b h k e =
    let same : x ≡ y = cc in
    absurd (All-head (λ b. b ≢ 91) y b lacks_b (sym same ∙ h))
cut (x ∷ a) [] u [] lacks_a lacks_b h k e = cc
cut (x ∷ a) [] u (y ∷ v) lacks_a lacks_b h k e =
    let same : y ≡ x = cc in
    absurd (All-head (λ b. b ≢ 91) x a lacks_a (sym same ∙ k))
cut (x ∷ a) (y ∷ b) u v lacks_a lacks_b h k e =
    let same : x ≡ y = cc in
    let others : a ++ u ≡ b ++ v = cc in
    let r = cut a b u v (All-tail (λ b. b ≢ 91) x a lacks_a) (All-tail (λ b. b ≢ 91) y b lacks_b) h k others in
    ((λ j. same j ∷ r.0 j), r.1)

one_suffix : (r : Option Range) (j k : ℕ) → ((x : Range) → r ≡ Some x → x.right < 2 ^ 31) → j < width_within r → k < width_within r → suffix r j ≡ suffix r k → j ≡ k
one_suffix None j k small lt_j lt_k e = omega (arith, lt_j, lt_k)
one_suffix (Some r) j k small lt_j lt_k e =
    let near = small r refl in
    let digits : decimal (index_at r j) ≡ decimal (index_at r k) =
    append_cancel_right (decimal (index_at r j)) (decimal (index_at r k)) (codes "]") (append_cancel_left (codes "[") (decimal (index_at r j) ++ codes "]") (decimal (index_at r k) ++ codes "]") e) in
    one_place r j k lt_j lt_k (decimal_injective (index_at r j) (index_at r k) (omega (arith, index_small r j near lt_j)) (omega (arith, index_small r k near lt_k)) digits)

module _ (m : Module) (setup : Setup) (d : Design) (is : IsModuleDesign m setup d) (lacks : All (λ (p : Port). HasNoBracket p.name.name) m.ports) where
  net_lacks : (j : ℕ) (x : BitInfo) (s : Bit m setup d is j x) → HasNoBracket s.n.name
  net_lacks j x s =
      let (p, there, own, of) = port_at m setup d is j x s in
      subst HasNoBracket (sym of.name_is) (subst (λ (q : Port). HasNoBracket q.name.name) (get_or_from_slice_get m.ports s.net p p there) (lacks s.net p (slice_get_within m.ports s.net p there)))

  -- two bits of one name are one
  same_bit : (j k : ℕ) (x y : BitInfo) → slice_get d.bits j ≡ Some x → slice_get d.bits k ≡ Some y → x.name ≡ y.name → j ≡ k
  same_bit j k x y at_j at_k same =
      let s = bit_at m setup d is j x at_j in
      let t = bit_at m setup d is k y at_k in
      let one = ap (λ (i : BitInfo). i.name) s.is in
      let other = ap (λ (i : BitInfo). i.name) t.is in
      let equal : in_scope m.name.name s.n.name ++ suffix s.n.vector.range s.k ≡ in_scope m.name.name t.n.name ++ suffix t.n.vector.range t.k =
      sym (with_suffix (in_scope m.name.name s.n.name) s.n.vector.range s.k) ∙ one ∙ same ∙ sym other ∙ with_suffix (in_scope m.name.name t.n.name) t.n.vector.range t.k in
      let inner = append_cancel_left (m.name.name ++ codes ".") (s.n.name ++ suffix s.n.vector.range s.k) (t.n.name ++ suffix t.n.vector.range t.k)
      (sym (append_assoc (m.name.name ++ codes ".") s.n.name (suffix s.n.vector.range s.k)) ∙ equal ∙ append_assoc (m.name.name ++ codes ".") t.n.name (suffix t.n.vector.range t.k)) in
      let parts = cut s.n.name t.n.name (suffix s.n.vector.range s.k) (suffix t.n.vector.range t.k) (net_lacks j x s) (net_lacks k y t)
      (suffix_behind s.n.vector.range s.k) (suffix_behind t.n.vector.range t.k) inner in
      let place : s.net ≡ t.net = is.distinct s.net t.net s.n.name (name_at is.nets s.net s.n s.at) (name_at is.nets t.net t.n t.at ∙ ap Some (sym parts.0)) in
      let net : s.n ≡ t.n = same_Some s.n t.n (sym s.at ∙ ap (slice_get is.nets) place ∙ t.at) in
      let (p, there, own, of) = port_at m setup d is j x s in
      let index : s.k ≡ t.k = one_suffix s.n.vector.range s.k t.k (λ r e. range_small p.range r (of.range_is ∙ ap Some e)) s.inside
      (subst (λ (n : Net). t.k < vector_width n.vector) (sym net) t.inside) (parts.1 ∙ ap (λ (n : Net). suffix n.vector.range t.k) (sym net)) in
      let here = s.place in
      let there' = t.place in
      let first : s.n.vector.first ≡ t.n.vector.first = ap (λ (n : Net). n.vector.first) net in
      omega (arith, here, there', first, index)

-- no two bits have one name
pub bits_distinct : (tree : Tree) (setup : Setup) (d : Design) (is : IsDesignOf tree setup d) → All (λ (p : Port). HasNoBracket p.name.name) is.0.ports →
    AreDistinct (map (λ (x : BitInfo). x.name) d.bits)
bits_distinct tree setup d is lacks j k name at_j at_k =
    let (x, at_x, named_x) = mapped_from (λ (x : BitInfo). x.name) (slice_get d.bits j) name (sym (slice_get-map (λ (x : BitInfo). x.name) d.bits j) ∙ at_j) in
    let (y, at_y, named_y) = mapped_from (λ (x : BitInfo). x.name) (slice_get d.bits k) name (sym (slice_get-map (λ (x : BitInfo). x.name) d.bits k) ∙ at_k) in
    same_bit is.0 setup d is.2 lacks j k x y at_x at_y (named_x ∙ sym named_y)

-- and no two registers
pub registers_distinct : (tree : Tree) (setup : Setup) (d : Design) (is : IsDesignOf tree setup d) → All (λ (p : Port). HasNoBracket p.name.name) is.0.ports →
    (none : BitInfo) → AreDistinct (map (λ b. (get_or d.bits b none).name) d.registers)
registers_distinct tree setup d is lacks none j k name at_j at_k =
    let (a, at_a, named_a) = register j at_j in
    let (b, at_b, named_b) = register k at_k in
    legal.registers_distinct j k b (at_a ∙ ap Some (bits_distinct tree setup d is lacks a b name named_a named_b)) at_b
  where
    legal : IsLegal d []
    legal = design_is_legal tree setup d is

    register : (i : ℕ) → slice_get (map (λ b. (get_or d.bits b none).name) d.registers) i ≡ Some name →
        (b : ℕ) × (slice_get d.registers i ≡ Some b) × (slice_get (map (λ (x : BitInfo). x.name) d.bits) b ≡ Some name)
    register i at =
        let (b, at_b, named_b) = mapped_from (λ b. (get_or d.bits b none).name) (slice_get d.registers i) name (sym (slice_get-map (λ b. (get_or d.bits b none).name) d.registers i) ∙ at) in
        let below = subst (λ n. n < length d.bits) (get_or_from_slice_get d.registers i b b at_b) (legal.registers_within i b (slice_get_within d.registers i b at_b)) in
        (b, at_b, slice_get-map (λ (x : BitInfo). x.name) d.bits b ∙ ap (option_map (λ (x : BitInfo). x.name)) (slice_get-get_or d.bits b none below) ∙ ap Some named_b)
