-- The bits of nets: each net's follow those of the nets before it.
use Rattle.std.proofs.Common.{◌≡◌, ℕ, zero, suc, ◌+◌, ◌<◌, ◌≤◌, Bool, true, false, not, cond, ◌&&◌, ◌||◌, ◌==◌, ◌⊎◌, inl, inr, List, [], ◌∷◌, ◌++◌, length, Option, Some, refl, sym, ap, ◌∙◌, subst, arith}
use Rattle.std.specs.Prelude.{All, option_map}
use Rattle.std.specs.Str.{bytes_eq}
use Rattle.std.proofs.lemmas.Bool.{false≢true, eqb-true, cases_lt}
use Rattle.std.proofs.lemmas.List.{length-append}
use Rattle.std.proofs.lemmas.List.Elements.{All-nil, All-cons, All-append}
use Rattle.std.proofs.lemmas.Option.{none-some, same_Some}
use Rattle.vlog_syntax.specs.declared.module.Port.{Port}
use Rattle.bit_exprs.specs.Named.{among}
use Rattle.bit_exprs.specs.Values.{listed}
use Rattle.bit_exprs.proofs.Given.{among-append}
use Rattle.design_core.specs.Legality.{Distinct}
use Rattle.design_core.proofs.Settling.{some_among}
use Rattle.design_core.proofs.Truth.{or_cases, or_right}
use Rattle.expr_elab.specs.declared.vectors.Range.{Range}
use Rattle.expr_elab.specs.Vectors.{Scope, width_within, vector_width, bits_of, IsWithin, names}
use Rattle.elab_flat.specs.declared.nets.Net.{Net}
use Rattle.elab_flat.specs.Nets.{range_of, leads_in, start_of, net_within, net_at, net_of, nets_from, each_of, bits_where, is_data_input, is_register, scope_of}
use Rattle.elab_flat.proofs.Inverses.{mapped_from, made_from, both_from}

-- ---- lists of numbers that rise

-- from the lower number on, each above the one before, and below the upper one
abbrev Rises : ℕ → List ℕ → ℕ → Type 0
Rises lower [] upper = lower ≤ upper
Rises lower (x ∷ xs) upper = (lower ≤ x) × Rises (x + 1) xs upper

rises_on : (lower middle upper : ℕ) (xs ys : List ℕ) → Rises lower xs middle → Rises middle ys upper → Rises lower (xs ++ ys) upper
rises_on lower middle upper [] [] h k = omega (arith, h, k)
rises_on lower middle upper [] (y ∷ ys) h k = (omega (arith, h, k.0), k.1)
rises_on lower middle upper (x ∷ xs) ys h k = (h.0, rises_on (x + 1) middle upper xs ys h.1 k)

rises_up : (lower upper : ℕ) (xs : List ℕ) → Rises lower xs upper → lower ≤ upper
rises_up lower upper [] h = h
rises_up lower upper (x ∷ xs) h = omega (arith, h.0, rises_up (x + 1) upper xs h.1)

rises_within : (lower upper : ℕ) (xs : List ℕ) (b : ℕ) → Rises lower xs upper → among xs b ≡ true → (lower ≤ b) × (b < upper)
rises_within lower upper [] b h e = absurd (false≢true e)
rises_within lower upper (x ∷ xs) b h e = by (or_cases (x == b) (among xs b) e) (λ k. rises_within (x + 1) upper xs b h.1 k)
  where
    by : (x == b ≡ true) ⊎ (among xs b ≡ true) → (among xs b ≡ true → (x + 1 ≤ b) × (b < upper)) → (lower ≤ b) × (b < upper)
    by (inl here) rest = let same = eqb-true x b here in (omega (arith, h.0, same), omega (arith, rises_up (x + 1) upper xs h.1, same))
    by (inr there) rest = let r = rest there in (omega (arith, h.0, r.0), r.1)

rises_below : (lower upper : ℕ) (xs : List ℕ) → Rises lower xs upper → All (λ b. b < upper) xs
rises_below lower upper [] h = All-nil (λ b. b < upper)
rises_below lower upper (x ∷ xs) h = All-cons (λ b. b < upper) x xs (omega (arith, rises_up (x + 1) upper xs h.1)) (rises_below (x + 1) upper xs h.1)

rises_distinct : (lower upper : ℕ) (xs : List ℕ) → Rises lower xs upper → Distinct xs
rises_distinct lower upper [] h j k b at_j at_k = absurd (none-some b at_j)
rises_distinct lower upper (x ∷ xs) h zero zero b at_j at_k = refl
rises_distinct lower upper (x ∷ xs) h zero (suc k) b at_j at_k =
    let r = rises_within (x + 1) upper xs b h.1 (some_among xs k b at_k) in
    absurd (omega (arith, r.0, same_Some x b at_j))
rises_distinct lower upper (x ∷ xs) h (suc j) zero b at_j at_k =
    let r = rises_within (x + 1) upper xs b h.1 (some_among xs j b at_j) in
    absurd (omega (arith, r.0, same_Some x b at_k))
rises_distinct lower upper (x ∷ xs) h (suc j) (suc k) b at_j at_k = ap suc (rises_distinct (x + 1) upper xs h.1 j k b at_j at_k)

-- ---- nets of ports

-- what a net has of its port
pub record IsNetOf (first : ℕ) (p : Port) (n : Net) : Type 0 where
  pub first_is : n.vector.first ≡ first
  pub name_is : n.name ≡ p.name.name
  pub range_is : range_of p.range ≡ Some n.vector.range

pub net_is : (first : ℕ) (p : Port) (n : Net) → net_of first p ≡ Some n → IsNetOf first p n
net_is first p n h =
    let (input, range, is_input, is_range, made) = both_from (net_at first p) (leads_in p.direction p.kind p.value) (range_of p.range) n h in
    let (start, is_start, whole) = made_from (λ start. net_within p.name.name input start range first (cases_lt 65536 (first + width_within range))) (start_of (width_within range) p.value) n made in
    by input range start is_range (cases_lt 65536 (first + width_within range)) whole
  where
    by : (input : Bool) (range : Option Range) (start : Option ℕ) → range_of p.range ≡ Some range →
        (c : (65536 < first + width_within range) ⊎ (first + width_within range ≤ 65536)) → net_within p.name.name input start range first c ≡ Some n → IsNetOf first p n
    by input range start is_range (inl many) e = absurd (none-some n e)
    by input range start is_range (inr few) e =
        let same = same_Some _ n e in
        record {
          first_is = sym (ap (λ (x : Net). x.vector.first) same);
          name_is = sym (ap (λ (x : Net). x.name) same);
          range_is = is_range ∙ ap (λ (x : Net). Some x.vector.range) same;
        }

-- the bits of the nets are those from the first one to the last, one net behind the other
abbrev pub Laid : ℕ → List Net → ℕ → Type 0
Laid first [] last = first ≡ last
Laid first (n ∷ ns) last = (n.vector.first ≡ first) × Laid (first + vector_width n.vector) ns last

pub laid : (first : ℕ) (ps : List Port) (nets : List Net) → nets_from first ps ≡ Some nets → (last : ℕ) × Laid first nets last
laid first [] nets h = subst (λ ns. (last : ℕ) × Laid first ns last) (same_Some [] nets h) (first, refl)
laid first (p ∷ ps) nets h =
    let (n, is_net, rest) = made_from (λ (n : Net). option_map (λ ns. n ∷ ns) (nets_from (first + vector_width n.vector) ps)) (net_of first p) nets h in
    let (ns, is_rest, whole) = mapped_from (λ ns. n ∷ ns) (nets_from (first + vector_width n.vector) ps) nets rest in
    let (last, others) = laid (first + vector_width n.vector) ps ns is_rest in
    subst (λ ns. (last : ℕ) × Laid first ns last) whole (last, ((net_is first p n is_net).first_is, others))

laid_up : (first last : ℕ) (nets : List Net) → Laid first nets last → first ≤ last
laid_up first last [] h = omega (arith, h)
laid_up first last (n ∷ ns) h = omega (arith, laid_up (first + vector_width n.vector) last ns h.1)

listed_long : {X : Type 0} (f : ℕ → X) (k w : ℕ) → length (listed f k w) ≡ w
listed_long f k zero = refl
listed_long f k (suc w) = ap suc (listed_long f (suc k) w)

-- there is one thing for each bit
pub each_long : {X : Type 0} (make : Net → ℕ → X) (first last : ℕ) (nets : List Net) → Laid first nets last → first + length (each_of make nets) ≡ last
each_long make first last [] h = omega (arith, h)
each_long make first last (n ∷ ns) h =
    omega (
      arith,
      length-append (listed (make n) 0 (vector_width n.vector)) (each_of make ns),
      listed_long (make n) 0 (vector_width n.vector),
      each_long make (first + vector_width n.vector) last ns h.1,
    )

-- ---- the bits of the nets that pass a test

listed_rises : (base k w lower upper : ℕ) → lower ≤ base + k → base + k + w ≤ upper → Rises lower (listed (λ i. base + i) k w) upper
listed_rises base k zero lower upper h u = omega (arith, h, u)
listed_rises base k (suc w) lower upper h u = (h, listed_rises base (suc k) w (base + k + 1) upper (omega arith) (omega (arith, u)))

abbrev bits_if : Bool → Net → List ℕ
bits_if t n = cond t (bits_of n.vector) []

net_rises : (t : Bool) (first : ℕ) (n : Net) → n.vector.first ≡ first → Rises first (bits_if t n) (first + vector_width n.vector)
net_rises true first n is = listed_rises n.vector.first 0 (vector_width n.vector) first (first + vector_width n.vector) (omega (arith, is)) (omega (arith, is))
net_rises false first n is = omega arith

module _ (test : Net → Bool) where
  bits_rise : (first last : ℕ) (nets : List Net) → Laid first nets last → Rises first (bits_where test nets) last
  bits_rise first last [] h = omega (arith, h)
  bits_rise first last (n ∷ ns) h =
      rises_on first (first + vector_width n.vector) last (bits_if (test n) n) (bits_where test ns) (net_rises (test n) first n h.0) (bits_rise (first + vector_width n.vector) last ns h.1)

  pub bits_below : (first last : ℕ) (nets : List Net) → Laid first nets last → All (λ b. b < last) (bits_where test nets)
  bits_below first last nets h = rises_below first last (bits_where test nets) (bits_rise first last nets h)

  pub bits_distinct : (first last : ℕ) (nets : List Net) → Laid first nets last → Distinct (bits_where test nets)
  bits_distinct first last nets h = rises_distinct first last (bits_where test nets) (bits_rise first last nets h)

-- where no net passes both of two tests, no bit is one of both
module _ (p q : Net → Bool) (once : (n : Net) → p n ≡ true → q n ≡ true → ⊥) where
  both_pass : (n : Net) (s t : Bool) (b : ℕ) → p n ≡ s → q n ≡ t → among (bits_if s n) b ≡ true → among (bits_if t n) b ≡ true → ⊥
  both_pass n true true b is_p is_q h k = once n is_p is_q
  both_pass n true false b is_p is_q h k = false≢true k
  both_pass n false t b is_p is_q h k = false≢true h

  pub bits_apart : (first last : ℕ) (nets : List Net) → Laid first nets last → (b : ℕ) → among (bits_where p nets) b ≡ true → among (bits_where q nets) b ≡ true → ⊥
  bits_apart first last [] laid b h k = false≢true h
  bits_apart first last (n ∷ ns) laid b h k =
      let next = first + vector_width n.vector in
      by
      (or_cases (among (bits_if (p n) n) b) (among (bits_where p ns) b) (sym (among-append (bits_if (p n) n) (bits_where p ns) b) ∙ h))
      (or_cases (among (bits_if (q n) n) b) (among (bits_where q ns) b) (sym (among-append (bits_if (q n) n) (bits_where q ns) b) ∙ k))
      (bits_apart next last ns laid.1 b)
    where
      here : (t : Bool) → among (bits_if t n) b ≡ true → b < first + vector_width n.vector
      here t e = (rises_within first (first + vector_width n.vector) (bits_if t n) b (net_rises t first n laid.0) e).1

      there : (test : Net → Bool) → among (bits_where test ns) b ≡ true → first + vector_width n.vector ≤ b
      there test e =
          (rises_within (first + vector_width n.vector) last (bits_where test ns) b (bits_rise test (first + vector_width n.vector) last ns laid.1) e).0

      by : (among (bits_if (p n) n) b ≡ true) ⊎ (among (bits_where p ns) b ≡ true) → (among (bits_if (q n) n) b ≡ true) ⊎ (among (bits_where q ns) b ≡ true) →
          (among (bits_where p ns) b ≡ true → among (bits_where q ns) b ≡ true → ⊥) → ⊥
      by (inl x) (inl y) rest = both_pass n (p n) (q n) b refl refl x y
      by (inl x) (inr y) rest = omega (arith, here (p n) x, there q y)
      by (inr x) (inl y) rest = omega (arith, here (q n) y, there p x)
      by (inr x) (inr y) rest = rest x y

-- ---- what may be named

as_input : (h m i r : Bool) → h || m ≡ true → (m ≡ true → i || r ≡ true) → (h || i) || r ≡ true
as_input true m i r e f = refl
as_input false m i r e f = f e

as_register : (h m i r : Bool) → h || m ≡ true → (m ≡ true → i || r ≡ true) → i || (h || r) ≡ true
as_register true m true r e f = refl
as_register true m false r e f = refl
as_register false m i r e f = f e

module _ (clock : List ℕ) where
  abbrev entry : Bool → Net → Scope
  entry t n = cond t [] ((n.name, n.vector) ∷ [])

  -- the bits of what may be named are below the last
  pub scope_within : (first last : ℕ) (nets : List Net) → Laid first nets last → IsWithin (scope_of clock nets) last
  scope_within first last [] h = All-nil (λ e. e.1.first + vector_width e.1 ≤ last)
  scope_within first last (n ∷ ns) h =
      All-append (λ e. e.1.first + vector_width e.1 ≤ last) (entry (bytes_eq n.name clock) n) (scope_of clock ns) (by (bytes_eq n.name clock)) (scope_within (first + vector_width n.vector) last ns h.1)
    where
      room : n.vector.first + vector_width n.vector ≤ last
      room = omega (arith, h.0, laid_up (first + vector_width n.vector) last ns h.1)

      by : (t : Bool) → All (λ e. e.1.first + vector_width e.1 ≤ last) (entry t n)
      by true = All-nil (λ e. e.1.first + vector_width e.1 ≤ last)
      by false = All-cons (λ e. e.1.first + vector_width e.1 ≤ last) (n.name, n.vector) [] room (All-nil (λ e. e.1.first + vector_width e.1 ≤ last))

  abbrev given : List Net → ℕ → Bool
  given nets b = among (bits_where (is_data_input clock) nets) b || among (bits_where is_register nets) b

  -- and are inputs or registers
  pub named_given : (nets : List Net) (b : ℕ) → names (scope_of clock nets) b ≡ true → given nets b ≡ true
  named_given [] b h = absurd (false≢true h)
  named_given (n ∷ ns) b h =
      (λ j. among-append (bits_if (is_data_input clock n) n) (bits_where (is_data_input clock) ns) b j || among-append (bits_if (is_register n) n) (bits_where is_register ns) b j)
      ∙ by n.input (bytes_eq n.name clock) h (named_given ns b)
    where
      by : (i t : Bool) → names (entry t n ++ scope_of clock ns) b ≡ true → (names (scope_of clock ns) b ≡ true → given ns b ≡ true) →
          (among (bits_if (i && not t) n) b || among (bits_where (is_data_input clock) ns) b) || (among (bits_if (not i) n) b || among (bits_where is_register ns) b) ≡ true
      by true true e rest = rest e
      by true false e rest = as_input (among (bits_of n.vector) b) (names (scope_of clock ns) b) (among (bits_where (is_data_input clock) ns) b) (among (bits_where is_register ns) b) e rest
      by false true e rest = as_register (among (bits_of n.vector) b) (names (scope_of clock ns) b) (among (bits_where (is_data_input clock) ns) b) (among (bits_where is_register ns) b) (or_right (among (bits_of n.vector) b) (names (scope_of clock ns) b) e) rest
      by false false e rest = as_register (among (bits_of n.vector) b) (names (scope_of clock ns) b) (among (bits_where (is_data_input clock) ns) b) (among (bits_where is_register ns) b) e rest
