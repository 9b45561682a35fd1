-- The names of nodes have their values.
use Rattle.std.proofs.Common.{◌≡◌, ◌≢◌, ℕ, ◌+◌, ◌*◌, ◌/◌, ◌%◌, ◌<◌, ◌≤◌, ◌⊎◌, inl, inr, nat_eq, zero, suc, Bool, true, false, not, ◌&&◌, cond, List, [], ◌∷◌, ◌++◌, length, get_or, drop, refl, sym, ap, ◌∙◌, subst, arith, length-append}
use Rattle.std.proofs.Math.ListN.{set}
use Rattle.std.proofs.Math.Seq.{drop-cons}
use Rattle.std.proofs.lemmas.Bool.{cases_eq, true≢false}
use Rattle.std.proofs.lemmas.List.{get_or_append_left, get_or_at, get_or-set_same, get_or-set_other, length-map, length-set, length_push}
use Rattle.std.proofs.lemmas.List.Elements.{All-nil, All-push, All-weaker}
use Rattle.std.proofs.lemmas.List.Quantifiers.{all_pairs_push}
use Rattle.aig_core.specs.declared.gate.Gate.{Gate}
use Rattle.aig_core.specs.Graph.{Graph, leaf_count, IsLiteral, negation, IsWellFormed, ReadEarlierNodes, not_if, value_in, gate_value, values_with, node_values, value_of, Gives, and_of, both}
use Rattle.bit_system.proofs.Earlier.{reads_at}
use Rattle.aig_core.proofs.AndLaw.{and_gives}
use Rattle.aig_core.proofs.Values.{get_or-values_with, value_in-values_with, value_of-negation, value_of-Extends, IsLiteral-Extends, IsLiteral-negation}
use Rattle.point_cone.specs.Reaching.{on}
use Rattle.point_cone.specs.Parts.{part}
use Rattle.point_cone.specs.Naming.{name_of, Renamed, name_gate, name_at, name_gates, AreLeaves, IsNamed, AreNamed}

-- ---- leaves

pub leaves_none : (marks : List Bool) (names : List ℕ) (first from : ℕ) → AreLeaves marks names names first 0 from []
leaves_none marks names first from = record {
  exist = All-nil (λ k. k < 0);
  rise = λ i j d lt below. absurd (omega arith);
  few = omega arith;
  marked = All-nil (λ k. on marks (first + k) ≡ true);
  named = λ k low. absurd (omega arith);
  same = λ n low. refl;
  bound = λ most le a. a;
  size = refl;
}

module _ (marks : List Bool) (old new : List ℕ) (first k from : ℕ) (places : List ℕ) (h : AreLeaves marks old new first k from places) where
  pub leaves_skip : on marks (first + k) ≡ false → AreLeaves marks old new first (k + 1) from places
  leaves_skip off = record {
    exist = All-weaker (λ j. j < k) (λ j. j < k + 1) (λ j low. omega arith) places h.exist;
    rise = h.rise;
    few = omega (arith, h.few);
    marked = h.marked;
    named = λ j low e. elim (cases_eq j k) [
      | inl q ↦ let here : on marks (first + k) ≡ true = rw q at e in absurd (true≢false (sym here ∙ off))
      | inr ne ↦ h.named j (omega arith) e
    ];
    same = h.same;
    bound = h.bound;
    size = h.size;
  }

  pub leaves_more : on marks (first + k) ≡ true → first + k < length new → AreLeaves marks old (set new (first + k) (2 * (from + length places))) first (k + 1) from (places ++ k ∷ [])
  leaves_more e low = record {
    exist = All-push (λ j. j < k + 1) places k (All-weaker (λ j. j < k) (λ j. j < k + 1) (λ j low. omega arith) places h.exist) (omega arith);
    rise = all_pairs_push (λ i j. i < j) places k h.rise h.exist;
    few = omega (arith, h.few, length_push places k);
    marked = All-push (λ j. on marks (first + j) ≡ true) places k h.marked e;
    named = λ j below f. elim (cases_eq j k) [
      | inl q ↦ (
        length places,
        omega (arith, length_push places k),
        get_or_at places k [] 0 (length places) refl ∙ sym q,
        rw q (get_or-set_same new (first + k) (2 * (from + length places)) 0 low),
      )
      | inr ne ↦
          let was = h.named j (omega arith) f in (
            was.0,
            omega (arith, was.1, length_push places k),
            get_or_append_left places (k ∷ []) 0 was.0 was.1 ∙ was.2,
            get_or-set_other new (first + k) (first + j) (2 * (from + length places)) 0 (λ q. ne (omega arith)) ∙ was.3,
          )
    ];
    same = λ n under. get_or-set_other new (first + k) n (2 * (from + length places)) 0 (λ q. absurd (omega arith)) ∙ h.same n under;
    bound = λ most le a i d below. elim (cases_eq i (first + k)) [
      | inl q ↦ rw q (let here = get_or-set_same new (first + k) (2 * (from + length places)) d low in omega (arith, here, le, length_push places k))
      | inr ne ↦
          let other = get_or-set_other new (first + k) i (2 * (from + length places)) d ne in
          let was : get_or new i d < 2 * most = h.bound most (omega (arith, le, length_push places k)) a i d (omega (arith, below, length-set new (first + k) (2 * (from + length places)))) in
          omega (arith, other, was)
    ];
    size = length-set new (first + k) (2 * (from + length places)) ∙ h.size;
  }

-- ---- gates

-- one more gate
pub gates_more : (marks : List Bool) (first i : ℕ) (gates : List Gate) (d : Gate) (r next all : Renamed) → i < length gates →
    name_gates marks (first + i) (drop i gates) r ≡ all → next ≡ name_at marks (first + i) (get_or gates i d) r → name_gates marks (first + (i + 1)) (drop (i + 1) gates) next ≡ all
gates_more marks first i gates d r next all low rest e =
    let there : first + (i + 1) ≡ suc (first + i) = omega arith in
    let more : i + 1 ≡ suc i = omega arith in
    rw (there, more, e) (sym (ap (λ (gs : List Gate). name_gates marks (first + i) gs r) (drop-cons gates i d low)) ∙ rest)

pub sides_within : (first i size : ℕ) (gates : List Gate) (d : Gate) → ReadEarlierNodes first gates → i < length gates → first + length gates ≤ size →
    ((get_or gates i d).left / 2 < size) × ((get_or gates i d).right / 2 < size)
sides_within first i size gates d r low le =
    let two = reads_at first gates i d r low in
    (omega (arith, two.0), omega (arith, two.1))

-- a gate has the value of its sides
pub node_is : (vals : List Bool) (gs : List Gate) (i : ℕ) (d : Gate) → i < length gs → ReadEarlierNodes (length vals) gs →
    get_or (values_with vals gs) (length vals + i) false ≡ gate_value (values_with vals gs) (get_or gs i d)
node_is vals [] i d low r = absurd (omega arith)
node_is vals (g ∷ gs) zero d low r =
    let more : List Bool = vals ++ gate_value vals g ∷ [] in
    let place : length vals + 0 ≡ length vals = omega arith in
    let here : get_or (values_with more gs) (length vals) false ≡ gate_value vals g =
    get_or-values_with more gs (length vals) (omega (arith, length_push vals (gate_value vals g))) ∙ get_or_at vals (gate_value vals g) [] false (length vals) refl in
    let left : value_in (values_with more gs) g.left ≡ value_in vals g.left = value_in-values_with vals (g ∷ gs) g.left r.0 in
    let right : value_in (values_with more gs) g.right ≡ value_in vals g.right = value_in-values_with vals (g ∷ gs) g.right r.1 in
    ap (λ (n : ℕ). get_or (values_with more gs) n false) place ∙ here
    ∙ sym (ap (λ (b : Bool). b && value_in (values_with more gs) g.right) left ∙ ap (λ (b : Bool). value_in vals g.left && b) right)
node_is vals (g ∷ gs) (suc i) d low r =
    let more : List Bool = vals ++ gate_value vals g ∷ [] in
    let len : length more ≡ suc (length vals) = omega (arith, length_push vals (gate_value vals g)) in
    let place : length vals + suc i ≡ length more + i = omega (arith, len) in
    ap (λ (n : ℕ). get_or (values_with more gs) n false) place
    ∙ node_is more gs i d (omega arith) (subst (λ (n : ℕ). ReadEarlierNodes n gs) (sym len) r.2)

-- ---- values

module _ (whole : Graph) (inputs states : List ℕ) (marks : List Bool) where
  abbrev pub parts : List Bool → List Bool → List Bool
  parts input state = part inputs input ++ part states state

  abbrev pub values : List Bool → List Bool → List Bool
  values input state = node_values whole (input ++ state)

  pub parts-length : (input state : List Bool) → length (parts input state) ≡ length inputs + length states
  parts-length input state =
      length-append (part inputs input) (part states state)
      ∙ ap (λ (n : ℕ). n + length (part states state)) (length-map inputs (λ k. get_or input k false))
      ∙ ap (λ (n : ℕ). length inputs + n) (length-map states (λ k. get_or state k false))

  -- the name of a literal has its value
  pub record HasValue (g : Graph) (name x : ℕ) : Type 0 where
    pub literal : IsLiteral g name
    pub value : (input state : List Bool) → length input ≡ whole.inputs → length state ≡ whole.states → value_of g (parts input state) name ≡ value_in (values input state) x

  pub name_has : (g : Graph) (names : List ℕ) (x : ℕ) → IsNamed whole g inputs states names (x / 2) → HasValue g (name_of names x) x
  name_has g names x h = record {
    literal = exists (nat_eq (x % 2) 1);
    value = λ input state i s. same input state i s (nat_eq (x % 2) 1);
  }
    where
      exists : (b : Bool) → IsLiteral g (cond b (negation (get_or names (x / 2) 0)) (get_or names (x / 2) 0))
      exists true = IsLiteral-negation g (get_or names (x / 2) 0) h.literal
      exists false = h.literal

      same : (input state : List Bool) → length input ≡ whole.inputs → length state ≡ whole.states → (b : Bool) →
          value_of g (parts input state) (cond b (negation (get_or names (x / 2) 0)) (get_or names (x / 2) 0)) ≡ not_if b (get_or (values input state) (x / 2) false)
      same input state i s true = value_of-negation g (parts input state) (get_or names (x / 2) 0) ∙ ap not (h.value input state i s)
      same input state i s false = h.value input state i s

  -- a gate of the whole circuit
  pub record IsGateAt (n : ℕ) (g : Gate) : Type 0 where
    pub left : g.left < 2 * n
    pub right : g.right < 2 * n
    pub left_on : on marks n ≡ true → on marks (g.left / 2) ≡ true
    pub right_on : on marks n ≡ true → on marks (g.right / 2) ≡ true
    pub value : (input state : List Bool) → length input ≡ whole.inputs → length state ≡ whole.states → get_or (values input state) n false ≡ gate_value (values input state) g

  -- the marked nodes before this one have names
  pub record UpTo (r : Renamed) (n : ℕ) : Type 0 where
    pub named : AreNamed whole r.graph inputs states marks r.names n
    pub well_formed : IsWellFormed r.graph
    pub inputs_are : r.graph.inputs ≡ length inputs
    pub states_are : r.graph.states ≡ length states

  gate_named : (n : ℕ) (g : Gate) (r : Renamed) → IsGateAt n g → n < length r.names → UpTo r n → on marks n ≡ true → UpTo (name_gate n g r) (suc n)
  gate_named n g r at low u e =
      let a : ℕ = name_of r.names g.left in
      let b : ℕ = name_of r.names g.right in
      let left : HasValue r.graph a g.left = name_has r.graph r.names g.left (u.named (g.left / 2) (omega (arith, at.left)) (at.left_on e)) in
      let right : HasValue r.graph b g.right = name_has r.graph r.names g.right (u.named (g.right / 2) (omega (arith, at.right)) (at.right_on e)) in
      let gives : Gives r.graph (and_of r.graph a b).0 (and_of r.graph a b).1 (both r.graph a b) = and_gives r.graph a b u.well_formed left.literal right.literal in
      record {
        named = λ k below f. by a b left right gives k below f (cases_eq k n);
        well_formed = gives.well_formed;
        inputs_are = gives.extends.inputs ∙ u.inputs_are;
        states_are = gives.extends.states ∙ u.states_are;
      }
    where
      len : (input state : List Bool) → length (parts input state) ≡ leaf_count r.graph
      len input state = omega (arith, parts-length input state, u.inputs_are, u.states_are)

      by : (a b : ℕ) → HasValue r.graph a g.left → HasValue r.graph b g.right → Gives r.graph (and_of r.graph a b).0 (and_of r.graph a b).1 (both r.graph a b) →
          (k : ℕ) → k < suc n → on marks k ≡ true → (k ≡ n) ⊎ (k ≢ n) → IsNamed whole (and_of r.graph a b).0 inputs states (set r.names n (and_of r.graph a b).1) k
      by a b left right gives k below f (inl q) =
          let here : get_or (set r.names n (and_of r.graph a b).1) k 0 ≡ (and_of r.graph a b).1 =
          ap (λ (i : ℕ). get_or (set r.names n (and_of r.graph a b).1) i 0) q ∙ get_or-set_same r.names n (and_of r.graph a b).1 0 low in
          record {
            literal = subst (IsLiteral (and_of r.graph a b).0) (sym here) gives.literal;
            value = λ input state i s.
                ap (value_of (and_of r.graph a b).0 (parts input state)) here
                ∙ gives.value (parts input state) (len input state)
                ∙ ap (λ (v : Bool). v && value_of r.graph (parts input state) b) (left.value input state i s)
                ∙ ap (λ (v : Bool). value_in (values input state) g.left && v) (right.value input state i s)
                ∙ sym (at.value input state i s)
                ∙ ap (λ (j : ℕ). get_or (values input state) j false) (sym q);
          }
      by a b left right gives k below f (inr ne) =
          let there : get_or (set r.names n (and_of r.graph a b).1) k 0 ≡ get_or r.names k 0 = get_or-set_other r.names n k (and_of r.graph a b).1 0 ne in
          let was : IsNamed whole r.graph inputs states r.names k = u.named k (omega arith) f in
          record {
            literal = subst (IsLiteral (and_of r.graph a b).0) (sym there) (IsLiteral-Extends r.graph (and_of r.graph a b).0 (get_or r.names k 0) gives.extends was.literal);
            value = λ input state i s.
                ap (value_of (and_of r.graph a b).0 (parts input state)) there
                ∙ value_of-Extends r.graph (and_of r.graph a b).0 (parts input state) (get_or r.names k 0) gives.extends (len input state) was.literal
                ∙ was.value input state i s;
          }

  at_named : (n : ℕ) (g : Gate) (r : Renamed) → IsGateAt n g → n < length r.names → UpTo r n → UpTo (name_at marks n g r) (suc n)
  at_named n g r at low u = by (on marks n) refl
    where
      by : (b : Bool) → on marks n ≡ b → UpTo (cond b (name_gate n g r) r) (suc n)
      by true e = gate_named n g r at low u e
      by false e = record {
        named = λ k below f. elim (cases_eq k n) [
          | inl q ↦ let here : on marks n ≡ true = rw q at f in absurd (true≢false (sym here ∙ e))
          | inr ne ↦ u.named k (omega arith) f
        ];
        well_formed = u.well_formed;
        inputs_are = u.inputs_are;
        states_are = u.states_are;
      }

  at_length : (n : ℕ) (g : Gate) (r : Renamed) → length (name_at marks n g r).names ≡ length r.names
  at_length n g r = by (on marks n)
    where
      by : (b : Bool) → length (cond b (name_gate n g r) r).names ≡ length r.names
      by true = length-set r.names n (and_of r.graph (name_of r.names g.left) (name_of r.names g.right)).1
      by false = refl

  pub gates_named : (n : ℕ) (gs : List Gate) (r : Renamed) → ((i : ℕ) (d : Gate) → i < length gs → IsGateAt (n + i) (get_or gs i d)) → n + length gs ≤ length r.names → UpTo r n →
      UpTo (name_gates marks n gs r) (n + length gs)
  gates_named n [] r facts le u = (let same : n + 0 ≡ n = omega arith in rw same u)
  gates_named n (g ∷ gs) r facts le u =
      let end : n + suc (length gs) ≡ suc n + length gs = omega arith in
      let first : n + 0 ≡ n = omega arith in
      rw end
      (gates_named (suc n) gs (name_at marks n g r)
      (λ i d low. (let same : n + suc i ≡ suc n + i = omega arith in rw same at (facts (suc i) d (omega arith))))
      (omega (arith, le, at_length n g r))
      (at_named n g r (rw first at (facts 0 g (omega arith))) (omega (arith, le)) u))

  pub gates_length : (n : ℕ) (gs : List Gate) (r : Renamed) → length (name_gates marks n gs r).names ≡ length r.names
  gates_length n [] r = refl
  gates_length n (g ∷ gs) r = gates_length (suc n) gs (name_at marks n g r) ∙ at_length n g r
