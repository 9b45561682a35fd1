-- The values of marked leaves give those of all marked nodes, and so the literals of the goal.
use Rattle.std.proofs.Common.{◌≡◌, ℕ, ◌+◌, ◌*◌, ◌-◌, ◌/◌, ◌%◌, ◌<◌, ◌≤◌, ◌⊎◌, inl, inr, zero, suc, nat_eq, Bool, true, false, not, cond, ◌&&◌, Some, List, [], ◌∷◌, ◌++◌, length, length-append, get_or, refl, sym, ap, ◌∙◌, subst, arith}
use Rattle.std.specs.Prelude.{All, slice_get}
use Rattle.std.proofs.lemmas.Bool.{cases_eq, cases_lt, true≢false, and_parts}
use Rattle.std.proofs.lemmas.List.{get_or_append_left, get_or_at, get_or-append-add, length_push}
use Rattle.std.proofs.lemmas.List.Elements.{All-nil, All-push, All-weaker}
use Rattle.std.proofs.lemmas.List.Folds.{list_all-append}
use Rattle.std.proofs.lemmas.List.Quantifiers.{all_pairs_push}
use Rattle.aig_core.specs.declared.gate.Gate.{Gate}
use Rattle.aig_core.specs.Graph.{first_gate, IsLiteral, ReadEarlierNodes, not_if, value_in, gate_value, values_with, node_values}
use Rattle.aig_core.proofs.Values.{value_in-values_with}
use Rattle.bit_system.specs.declared.ladder.StateLit.{StateLit}
use Rattle.bit_system.specs.Machine.{Machine, IsMachine, IsState, IsInput, value_in_step}
use Rattle.bit_system.specs.Ladders.{lit_true}
use Rattle.generalise.specs.Cubes.{in_cube, IsCube}
use Rattle.generalise.specs.Lifting.{Forces, on, IsSupported, AreSupported, IsGathered}

-- ---- nodes

off-right : (a b : Bool) → b ≡ false → (a && b) ≡ false
off-right true b e = e
off-right false b e = refl

off-left : (a b : Bool) → a ≡ false → (a && b) ≡ false
off-left a b e = rw e refl

module _ (marks : List Bool) where
  value-agrees : (vs ws : List Bool) (x : ℕ) → get_or ws (x / 2) false ≡ get_or vs (x / 2) false → value_in ws x ≡ value_in vs x
  value-agrees vs ws x e = ap (not_if (nat_eq (x % 2) 1)) e

  -- where the marked nodes before the gate agree, so does the gate
  gate-agrees : (n : ℕ) (g : Gate) (gs : List Gate) (vs ws : List Bool) → length vs ≡ n → g.left < 2 * n → g.right < 2 * n →
      ((k : ℕ) → k < n → on marks k ≡ true → get_or ws k false ≡ get_or vs k false) →
      IsSupported (values_with vs (g ∷ gs)) marks g → gate_value ws g ≡ gate_value vs g
  gate-agrees n g gs vs ws len l r agree (inl h) =
      let was : value_in vs g.left ≡ false = sym (value_in-values_with vs (g ∷ gs) g.left (omega arith)) ∙ h.0 in
      let is : value_in ws g.left ≡ false = value-agrees vs ws g.left (agree (g.left / 2) (omega arith) h.1) ∙ was in
      off-left (value_in ws g.left) (value_in ws g.right) is ∙ sym (off-left (value_in vs g.left) (value_in vs g.right) was)
  gate-agrees n g gs vs ws len l r agree (inr (inl h)) =
      let was : value_in vs g.right ≡ false = sym (value_in-values_with vs (g ∷ gs) g.right (omega arith)) ∙ h.0 in
      let is : value_in ws g.right ≡ false = value-agrees vs ws g.right (agree (g.right / 2) (omega arith) h.1) ∙ was in
      off-right (value_in ws g.left) (value_in ws g.right) is ∙ sym (off-right (value_in vs g.left) (value_in vs g.right) was)
  gate-agrees n g gs vs ws len l r agree (inr (inr h)) =
      let left : value_in ws g.left ≡ value_in vs g.left = value-agrees vs ws g.left (agree (g.left / 2) (omega arith) h.0) in
      let right : value_in ws g.right ≡ value_in vs g.right = value-agrees vs ws g.right (agree (g.right / 2) (omega arith) h.1) in
      ap (λ (b : Bool). b && value_in ws g.right) left ∙ ap (λ (b : Bool). value_in vs g.left && b) right

  nodes-agree : (n : ℕ) (gs : List Gate) (vs ws : List Bool) → length vs ≡ n → length ws ≡ n → ReadEarlierNodes n gs →
      ((i : ℕ) (g : Gate) → slice_get gs i ≡ Some g → on marks (n + i) ≡ true → IsSupported (values_with vs gs) marks g) →
      ((k : ℕ) → k < n → on marks k ≡ true → get_or ws k false ≡ get_or vs k false) →
      (k : ℕ) → k < n + length gs → on marks k ≡ true → get_or (values_with ws gs) k false ≡ get_or (values_with vs gs) k false
  nodes-agree n [] vs ws lv lw r closed agree = λ k w m. agree k (omega arith) m
  nodes-agree n (g ∷ gs) vs ws lv lw r closed agree =
      λ j u z. nodes-agree (suc n) gs (vs ++ gate_value vs g ∷ []) (ws ++ gate_value ws g ∷ [])
      (omega (arith, length_push vs (gate_value vs g))) (omega (arith, length_push ws (gate_value ws g))) r.2
      (λ i x s e. closed (suc i) x s (let same : n + suc i ≡ suc n + i = omega arith in rw same e))
      (λ k w m. by k m (cases_lt k n) w)
      j (omega arith) z
    where
      by : (k : ℕ) → on marks k ≡ true → (k < n) ⊎ (n ≤ k) → k < suc n → get_or (ws ++ gate_value ws g ∷ []) k false ≡ get_or (vs ++ gate_value vs g ∷ []) k false
      by k m (inl lt) w =
          get_or_append_left ws (gate_value ws g ∷ []) false k (omega (arith, lw)) ∙ agree k lt m
          ∙ sym (get_or_append_left vs (gate_value vs g ∷ []) false k (omega (arith, lv)))
      by k m (inr ge) w =
          let same : k ≡ n + 0 = omega arith in
          let marked : on marks (n + 0) ≡ true = rw same at m in
          let here : k ≡ n = omega arith in
          get_or_at ws (gate_value ws g) [] false k (lw ∙ sym here)
          ∙ gate-agrees n g gs vs ws lv r.0 r.1 agree (closed 0 g refl marked)
          ∙ sym (get_or_at vs (gate_value vs g) [] false k (lv ∙ sym here))

-- ---- what is gathered

lit-is : (p v : Bool) → cond p v (not v) ≡ true → v ≡ p
lit-is true true h = refl
lit-is true false h = h
lit-is false true h = sym h
lit-is false false h = refl

own : (v : Bool) → cond v v (not v) ≡ true
own true = refl
own false = refl

with-last : (a b : Bool) → a ≡ true → b ≡ true → (a && (b && true)) ≡ true
with-last true true p q = refl
with-last true false p q = q
with-last false b p q = p

inside-push : (s : List Bool) (cube : List StateLit) (l : StateLit) → in_cube s cube ≡ true → lit_true s l ≡ true → in_cube s (cube ++ l ∷ []) ≡ true
inside-push s cube l h e = list_all-append (lit_true s) cube (l ∷ []) ∙ with-last (in_cube s cube) (lit_true s l) h e

inside-parts : (s : List Bool) (cube : List StateLit) (l : StateLit) → in_cube s (cube ++ l ∷ []) ≡ true → (in_cube s cube ≡ true) × (lit_true s l ≡ true)
inside-parts s cube l h =
    let both = and_parts (in_cube s cube) (lit_true s l && true) (sym (list_all-append (lit_true s) cube (l ∷ [])) ∙ h) in
    (both.0, (and_parts (lit_true s l) true both.1).0)

pub gathered_none : (marks state : List Bool) (first : ℕ) → IsGathered marks state first 0 []
gathered_none marks state first = record {
  in_range = All-nil (λ (l : StateLit). l.state < 0);
  rises = λ i j d lt below. absurd (omega arith);
  inside = refl;
  says = λ k other low. absurd (omega arith);
}

pub gathered_more : (marks state : List Bool) (first k : ℕ) (cube : List StateLit) → IsGathered marks state first k cube →
    IsGathered marks state first (k + 1) (cube ++ record { state = k; positive = get_or state k false } ∷ [])
gathered_more marks state first k cube h =
    let l : StateLit = record { state = k; positive = get_or state k false } in
    record {
      in_range = All-push (λ n. n.state < k + 1) cube l (All-weaker (λ n. n.state < k) (λ n. n.state < k + 1) (λ n low. omega arith) cube h.in_range) (omega arith);
      rises = all_pairs_push (λ a b. a.state < b.state) cube l h.rises h.in_range;
      inside = inside-push state cube l h.inside (own (get_or state k false));
      says = λ j other low marked inside.
          let parts = inside-parts other cube l inside in
          elim (cases_eq j k) [
            | inl e ↦ rw e (lit-is (get_or state k false) (get_or other k false) parts.1)
            | inr ne ↦ h.says j other (omega arith) marked parts.0
          ];
    }

pub gathered_skip : (marks state : List Bool) (first k : ℕ) (cube : List StateLit) → on marks (first + k) ≡ false → IsGathered marks state first k cube →
    IsGathered marks state first (k + 1) cube
gathered_skip marks state first k cube off h = record {
  in_range = All-weaker (λ n. n.state < k) (λ n. n.state < k + 1) (λ n low. omega arith) cube h.in_range;
  rises = h.rises;
  inside = h.inside;
  says = λ j other low marked inside.
      elim (cases_eq j k) [
        | inl e ↦ let here : on marks (first + k) ≡ true = rw e at marked in absurd (true≢false (sym here ∙ off))
        | inr ne ↦ h.says j other (omega arith) marked inside
      ];
}

-- ---- the state

leaf-agrees : (m : Machine) (marks state input other : List Bool) (cube : List StateLit) → IsState m state → IsInput m input → IsState m other →
    IsGathered marks state (1 + m.graph.inputs) (length state) cube → in_cube other cube ≡ true →
    (k : ℕ) → k < 1 + (m.graph.inputs + length m.states) → on marks k ≡ true →
    get_or (false ∷ (input ++ other)) k false ≡ get_or (false ∷ (input ++ state)) k false
leaf-agrees m marks state input other cube st inp ot g inside zero low marked = refl
leaf-agrees m marks state input other cube st inp ot g inside (suc k) low marked =
    elim (cases_lt k (length input)) [
      | inl lt ↦ get_or_append_left input other false k lt ∙ sym (get_or_append_left input state false k lt)
      | inr ge ↦
          let j : ℕ = k - length input in
          let here : length input + j ≡ k = omega arith in
          let node : suc k ≡ 1 + m.graph.inputs + j = omega (arith, inp) in
          let at_j : on marks (1 + m.graph.inputs + j) ≡ true = rw node at marked in
          let same : get_or other j false ≡ get_or state j false = g.says j other (omega (arith, st, inp)) at_j inside in
          subst (λ (n : ℕ). get_or (input ++ other) n false ≡ get_or (input ++ state) n false) here
          (get_or-append-add input other j false ∙ same ∙ sym (get_or-append-add input state j false))
    ]

pub forces : (m : Machine) (marks state input : List Bool) (goal : List ℕ) (cube : List StateLit) →
    IsMachine m → IsState m state → IsInput m input → All (IsLiteral m.graph) goal →
    All (λ x. value_in_step m state input x ≡ true) goal → All (λ x. on marks (x / 2) ≡ true) goal →
    AreSupported (node_values m.graph (input ++ state)) marks (first_gate m.graph) m.graph.gates 0 →
    IsGathered marks state (1 + m.graph.inputs) (length state) cube → Forces m input goal cube
forces m marks state input goal cube v st inp exist is_true marked supported g other ot inside k d low =
    let x : ℕ = get_or goal k d in
    let leaves : (s : List Bool) → IsState m s → length (false ∷ (input ++ s)) ≡ first_gate m.graph =
    λ s h. omega (arith, length-append input s, h, inp, v.states) in
    let agree : get_or (node_values m.graph (input ++ other)) (x / 2) false ≡ get_or (node_values m.graph (input ++ state)) (x / 2) false =
    nodes-agree marks (first_gate m.graph) m.graph.gates (false ∷ (input ++ state)) (false ∷ (input ++ other)) (leaves state st) (leaves other ot) v.well_formed
    (λ i gate is on_it. supported.each i gate (omega arith) is on_it)
    (λ n low_n on_it. leaf-agrees m marks state input other cube st inp ot g inside n (omega (arith, v.states)) on_it)
    (x / 2) (omega (arith, exist k d low)) (marked k d low) in
    value-agrees marks (node_values m.graph (input ++ state)) (node_values m.graph (input ++ other)) x agree ∙ is_true k d low

pub lifted_cube : (m : Machine) (marks state : List Bool) (first : ℕ) (cube : List StateLit) → IsState m state → IsGathered marks state first (length state) cube → IsCube m cube
lifted_cube m marks state first cube st g = record {
  in_range = All-weaker (λ l. l.state < length state) (λ l. l.state < length m.states) (λ l low. omega (arith, st)) cube g.in_range;
  rises = g.rises;
}
