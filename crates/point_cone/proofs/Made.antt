-- The circuit of marked nodes, and the cone over it.
use Rattle.std.proofs.Common.{◌≡◌, ℕ, ◌+◌, ◌-◌, ◌*◌, ◌/◌, ◌<◌, inl, inr, nat_lt, zero, suc, Bool, true, false, None, List, [], ◌∷◌, ◌++◌, length, get_or, replicate, refl, sym, ap, ◌∙◌, subst, arith, length-append, map}
use Rattle.std.specs.Prelude.{All}
use Rattle.std.proofs.lemmas.Bool.{cases_lt, lt-ltb}
use Rattle.std.proofs.lemmas.Bool.Decides.{nat_tests}
use Rattle.std.proofs.lemmas.List.{get_or_append_left, get_or-append-add, get_or-map, get_or-replicate, get_or_default, length-map, length-replicate}
use Rattle.std.proofs.lemmas.List.Elements.{All-nil, All-cons, All-head, All-tail, All-map, All-weaker}
use Rattle.aig_core.specs.declared.gate.Gate.{Gate}
use Rattle.aig_core.specs.Graph.{Graph, first_gate, node_count, IsLiteral, ReadEarlierNodes, node_values, value_of}
use Rattle.aig_core.proofs.Values.{get_or-values_with, value_in-node}
use Rattle.bit_system.specs.declared.system.StateInfo.{StateInfo}
use Rattle.bit_system.specs.Machine.{Machine, IsMachine, PartsFit, IsState, IsInput, next_literal, hit_literal, next_state, value_in_step}
use Rattle.bit_system.specs.Queries.{first_state}
use Rattle.bit_system.proofs.Earlier.{reads_at}
use Rattle.point_cone.specs.Reaching.{on, reads, IsNeeded, IsDone, AreDone, IsReached}
use Rattle.point_cone.specs.Parts.{part, info_at, infos_at, IsCone}
use Rattle.point_cone.specs.Naming.{name_of, Renamed, name_gates, AreLeaves, IsNamed, AreNamed}
use Rattle.point_cone.specs.Small.{IsSmall}
use Rattle.point_cone.specs.declared.build.Small.{Small}
use Rattle.point_cone.proofs.Naming.{node_is, parts, HasValue, name_has, IsGateAt, UpTo, gates_named, gates_length}

-- ---- what nodes read

pub reads_state : (m : Machine) (s : ℕ) → IsMachine m → s < length m.states → reads m (first_state m + s) ≡ (next_literal m s, next_literal m s)
reads_state m s v low =
    let from : nat_lt (first_state m + s) (first_state m) ≡ false = grind (arith, nat_tests) in
    let below : nat_lt (first_state m + s) (first_gate m.graph) ≡ true = lt-ltb (first_state m + s) (first_gate m.graph) (omega (arith, v.states)) in
    let place : first_state m + s - first_state m ≡ s = omega arith in
    rw (from, below, place) refl

pub reads_gate : (m : Machine) (i : ℕ) → reads m (first_gate m.graph + i) ≡ ((get_or m.graph.gates i (record { left = 0; right = 0 })).left, (get_or m.graph.gates i (record { left = 0; right = 0 })).right)
reads_gate m i =
    let from : nat_lt (first_gate m.graph + i) (first_state m) ≡ false = grind (arith, nat_tests) in
    let past : nat_lt (first_gate m.graph + i) (first_gate m.graph) ≡ false = grind (arith, nat_tests) in
    let place : first_gate m.graph + i - first_gate m.graph ≡ i = omega arith in
    rw (from, past, place) refl

module _ (m : Machine) (v : IsMachine m) (marks : List Bool) (inputs states : List ℕ) where
  whole-length : (input state : List Bool) → length input ≡ m.graph.inputs → length state ≡ m.graph.states → length (false ∷ (input ++ state)) ≡ first_gate m.graph
  whole-length input state i s = omega (arith, length-append input state, i, s)

  gate_at : AreDone m marks → (i : ℕ) (d : Gate) → i < length m.graph.gates → IsGateAt m.graph inputs states marks (first_gate m.graph + i) (get_or m.graph.gates i d)
  gate_at done i d low =
      let z : Gate = record { left = 0; right = 0 } in
      let same : get_or m.graph.gates i z ≡ get_or m.graph.gates i d = get_or_default m.graph.gates i z d low in
      subst (IsGateAt m.graph inputs states marks (first_gate m.graph + i)) same
      (let two = reads_at (first_gate m.graph) m.graph.gates i z v.well_formed low in
      record {
        left = two.0;
        right = two.1;
        left_on = λ e. (let d = done (first_gate m.graph + i) e in (rw (reads_gate m i) at d.left));
        right_on = λ e. (let d = done (first_gate m.graph + i) e in (rw (reads_gate m i) at d.right));
        value = λ input state il sl.
            let len = whole-length input state il sl in
            ap (λ (n : ℕ). get_or (node_values m.graph (input ++ state)) (n + i) false) (sym len)
            ∙ node_is (false ∷ (input ++ state)) m.graph.gates i z low (subst (λ (n : ℕ). ReadEarlierNodes n m.graph.gates) (sym len) v.well_formed);
      })

  -- ---- leaves

  abbrev bare : Graph
  bare = record { inputs = length inputs; states = length states; gates = [] }

  leaf_value : (leaves : List Bool) (j : ℕ) → value_of bare leaves (2 * (1 + j)) ≡ get_or leaves j false
  leaf_value leaves j = (let same : 1 + j ≡ suc j = omega arith in value_in-node (false ∷ leaves) (1 + j) ∙ ap (λ (n : ℕ). get_or (false ∷ leaves) n false) same)

  node_leaf : (input state : List Bool) (k : ℕ) → k < length (input ++ state) → get_or (node_values m.graph (input ++ state)) (suc k) false ≡ get_or (input ++ state) k false
  node_leaf input state k low = get_or-values_with (false ∷ (input ++ state)) m.graph.gates (suc k) (omega arith)

  module _ (n0 n1 n2 : List ℕ) (fresh : n0 ≡ replicate (node_count m.graph) 0)
      (i : AreLeaves marks n0 n1 1 m.graph.inputs 1 inputs) (s : AreLeaves marks n1 n2 (1 + m.graph.inputs) (length m.states) (1 + length inputs) states) where
    false_named : IsNamed m.graph bare inputs states n2 0
    false_named =
        let name : get_or n2 0 0 ≡ 0 = s.same 0 (omega arith) ∙ i.same 0 (omega arith) ∙ ap (λ (l : List ℕ). get_or l 0 0) fresh ∙ get_or-replicate (node_count m.graph) 0 0 0 (omega arith) in
        record {
          literal = omega (arith, name);
          value = λ input state il sl. ap (value_of bare (parts m.graph inputs states marks input state)) name ∙ sym (get_or-values_with (false ∷ (input ++ state)) m.graph.gates 0 (omega arith));
        }

    input_named : (k : ℕ) → k < m.graph.inputs → on marks (1 + k) ≡ true → IsNamed m.graph bare inputs states n2 (1 + k)
    input_named k low e =
        let h = i.named k low e in
        let name : get_or n2 (1 + k) 0 ≡ 2 * (1 + h.0) = s.same (1 + k) (omega arith) ∙ h.3 in
        record {
          literal = omega (arith, name, h.1);
          value = λ input state il sl.
              let node : 1 + k ≡ suc k = omega arith in
              ap (value_of bare (part inputs input ++ part states state)) name
              ∙ leaf_value (part inputs input ++ part states state) h.0
              ∙ get_or_append_left (part inputs input) (part states state) false h.0 (omega (arith, h.1, length-map inputs (λ (k : ℕ). get_or input k false)))
              ∙ get_or-map (λ (k : ℕ). get_or input k false) inputs h.0 0 false h.1
              ∙ ap (λ (n : ℕ). get_or input n false) h.2
              ∙ sym (ap (λ (n : ℕ). get_or (node_values m.graph (input ++ state)) n false) node ∙ node_leaf input state k (omega (arith, length-append input state, il)) ∙ get_or_append_left input state false k (omega (arith, il)));
        }

    state_named : (k : ℕ) → k < length m.states → on marks (1 + m.graph.inputs + k) ≡ true → IsNamed m.graph bare inputs states n2 (1 + m.graph.inputs + k)
    state_named k low e =
        let h = s.named k low e in
        let name : get_or n2 (1 + m.graph.inputs + k) 0 ≡ 2 * (1 + (length inputs + h.0)) = (let same : 1 + length inputs + h.0 ≡ 1 + (length inputs + h.0) = omega arith in h.3 ∙ ap (λ (n : ℕ). 2 * n) same) in
        record {
          literal = omega (arith, name, h.1);
          value = λ input state il sl.
              let node : 1 + m.graph.inputs + k ≡ suc (length input + k) = omega (arith, il) in
              let len : length inputs ≡ length (part inputs input) = sym (length-map inputs (λ (k : ℕ). get_or input k false)) in
              ap (value_of bare (part inputs input ++ part states state)) name
              ∙ leaf_value (part inputs input ++ part states state) (length inputs + h.0)
              ∙ ap (λ (n : ℕ). get_or (part inputs input ++ part states state) (n + h.0) false) len
              ∙ get_or-append-add (part inputs input) (part states state) h.0 false
              ∙ get_or-map (λ (k : ℕ). get_or state k false) states h.0 0 false h.1
              ∙ ap (λ (n : ℕ). get_or state n false) h.2
              ∙ sym (ap (λ (n : ℕ). get_or (node_values m.graph (input ++ state)) n false) node
              ∙ node_leaf input state (length input + k) (omega (arith, length-append input state, sl, v.states)) ∙ get_or-append-add input state k false);
        }

    leaves_named : AreNamed m.graph bare inputs states marks n2 (first_gate m.graph)
    leaves_named zero low e = false_named
    leaves_named (suc n) low e = elim (cases_lt n m.graph.inputs) [
      | inl lt ↦ (let same : 1 + n ≡ suc n = omega arith in subst (IsNamed m.graph bare inputs states n2) same (input_named n lt (subst (λ (k : ℕ). on marks k ≡ true) (sym same) e)))
      | inr ge ↦
          (let same : 1 + m.graph.inputs + (n - m.graph.inputs) ≡ suc n = omega arith in
          subst (IsNamed m.graph bare inputs states n2) same (state_named (n - m.graph.inputs) (omega (arith, v.states)) (subst (λ (k : ℕ). on marks k ≡ true) (sym same) e)))
    ]

    zeros : (most : ℕ) → 0 < most → All (λ x. x < 2 * most) n0
    zeros most some =
        rw fresh
        (λ k d low. (let zero-is : get_or (replicate (node_count m.graph) 0) k d ≡ 0 = get_or-replicate (node_count m.graph) k 0 d (omega (arith, length-replicate {A = ℕ} (node_count m.graph) 0)) in omega (arith, zero-is)))

    pub all_literals : (g : Graph) → g ≡ bare → All (IsLiteral g) n2
    all_literals g e =
        rw e
        (λ k d low.
        let most : ℕ = 1 + length inputs + length states in
        let below = s.bound most (omega arith) (i.bound most (omega arith) (zeros most (omega arith))) k d low in
        omega (arith, below))

    pub small_is : (after : Graph) (names : List ℕ) → length marks ≡ node_count m.graph → AreDone m marks →
        record { graph = after; names = names } ≡ name_gates marks (first_gate m.graph) m.graph.gates (record { graph = bare; names = n2 }) →
        IsSmall m marks names (record { aig = after; states = states; inputs = inputs })
    small_is after names size done made =
        let start : Renamed = record { graph = bare; names = n2 } in
        let long : length n2 ≡ node_count m.graph = s.size ∙ i.size ∙ ap (λ (l : List ℕ). length l) fresh ∙ length-replicate (node_count m.graph) 0 in
        let up : UpTo m.graph inputs states marks (name_gates marks (first_gate m.graph) m.graph.gates start) (first_gate m.graph + length m.graph.gates) =
        gates_named m.graph inputs states marks (first_gate m.graph) m.graph.gates start (gate_at done) (omega (arith, long))
        (record { named = leaves_named; well_formed = tt; inputs_are = refl; states_are = refl }) in
        let graph_is : after ≡ (name_gates marks (first_gate m.graph) m.graph.gates start).graph = ap (λ (r : Renamed). r.graph) made in
        let names_are : names ≡ (name_gates marks (first_gate m.graph) m.graph.gates start).names = ap (λ (r : Renamed). r.names) made in
        rw (graph_is, names_are)
        (record {
          states = record { exist = s.exist; rise = s.rise };
          inputs = record { exist = i.exist; rise = i.rise };
          marked = s.marked;
          state_count = up.states_are;
          input_count = up.inputs_are;
          size = gates_length m.graph inputs states marks (first_gate m.graph) m.graph.gates start ∙ long;
          named = up.named;
        })

-- ---- the cone

module _ (m : Machine) (v : IsMachine m) (point : ℕ) (marks : List Bool) (names : List ℕ) (s : Small)
    (exists : point < length m.hits) (reached : IsReached m point marks) (h : IsSmall m marks names s) where
  abbrev pub next_names : List ℕ
  next_names = map (λ k. name_of names (next_literal m k)) s.states

  abbrev pub hit_names : List ℕ
  hit_names = name_of names (hit_literal m point) ∷ []

  abbrev Named : ℕ → Type 0
  Named x = HasValue m.graph s.inputs s.states marks s.aig (name_of names x) x

  named : (x : ℕ) → IsLiteral m.graph x → on marks (x / 2) ≡ true → Named x
  named x low e = name_has m.graph s.inputs s.states marks s.aig names x (h.named (x / 2) (omega (arith, low)) e)

  hit_named : Named (hit_literal m point)
  hit_named = named (hit_literal m point) (v.hits_exist point 0 exists) reached.hit

  -- the next literal of a state bit of the cone
  next_named : (k : ℕ) → k < length m.states → on marks (first_state m + k) ≡ true → Named (next_literal m k)
  next_named k low e =
      let d : IsDone m marks (first_state m + k) = reached.done (first_state m + k) e in
      named (next_literal m k) (v.next_exist k 0 (omega (arith, v.next_count))) (rw (reads_state m k v low) at d.left)

  all_named : All (λ k. Named (next_literal m k)) s.states
  all_named i d low = next_named (get_or s.states i d) (h.states.exist i d low) (h.marked i d low)

  pub cone_fits : PartsFit s.aig (infos_at m.states s.states) next_names hit_names
  cone_fits = record {
    state_count = h.state_count ∙ sym (length-map s.states (info_at m.states));
    next_count = length-map s.states (λ k. name_of names (next_literal m k)) ∙ sym (length-map s.states (info_at m.states));
    next_exist = All-map (IsLiteral s.aig) (λ k. name_of names (next_literal m k)) s.states
        (All-weaker (λ k. Named (next_literal m k)) (λ k. IsLiteral s.aig (name_of names (next_literal m k))) (λ k n. n.literal) s.states all_named);
    hits_exist = All-cons (IsLiteral s.aig) (name_of names (hit_literal m point)) [] hit_named.literal (All-nil (IsLiteral s.aig));
  }

  module _ (cone : Machine) (graph : cone.graph ≡ s.aig) (states : cone.states ≡ infos_at m.states s.states) (next : cone.next ≡ next_names) (hits : cone.hits ≡ hit_names) where
    step_is : (state input : List Bool) → IsState m state → IsInput m input → (ks : List ℕ) → All (λ k. k < length m.states) ks → All (λ k. Named (next_literal m k)) ks →
        map (value_of s.aig (part s.inputs input ++ part s.states state)) (map (λ k. name_of names (next_literal m k)) ks) ≡ part ks (next_state m state input)
    step_is state input st inp [] low all = refl
    step_is state input st inp (k ∷ ks) low all =
        let here : Named (next_literal m k) = All-head (λ k. Named (next_literal m k)) k ks all in
        let below : k < length m.states = All-head (λ k. k < length m.states) k ks low in
        let value : value_of s.aig (part s.inputs input ++ part s.states state) (name_of names (next_literal m k)) ≡ get_or (next_state m state input) k false =
        here.value input state inp (st ∙ sym v.states) ∙ sym (get_or-map (value_in_step m state input) m.next k 0 false (omega (arith, v.next_count))) in
        let rest : map (value_of s.aig (part s.inputs input ++ part s.states state)) (map (λ k. name_of names (next_literal m k)) ks) ≡ part ks (next_state m state input) =
        step_is state input st inp ks (All-tail (λ k. k < length m.states) k ks low) (All-tail (λ k. Named (next_literal m k)) k ks all) in
        ap (λ (b : Bool). b ∷ map (value_of s.aig (part s.inputs input ++ part s.states state)) (map (λ k. name_of names (next_literal m k)) ks)) value
        ∙ ap (λ (l : List Bool). get_or (next_state m state input) k false ∷ l) rest

    pub cone_is : IsMachine cone → cone.prelude ≡ m.prelude → IsCone m (record { point = point; system = cone; states = s.states; inputs = s.inputs })
    cone_is valid prelude = record {
      point = exists;
      valid = valid;
      states = h.states;
      inputs = h.inputs;
      needed = All-weaker (λ k. on marks (first_state m + k) ≡ true) (λ k. IsNeeded m point (first_state m + k)) (λ k e. reached.needed (first_state m + k) e) s.states h.marked;
      state_count = ap (λ (l : List StateInfo). length l) states ∙ length-map s.states (info_at m.states);
      input_count = ap (λ (g : Graph). g.inputs) graph ∙ h.input_count;
      hit_count = ap (λ (l : List ℕ). length l) hits;
      prelude = prelude;
      starts = λ k d low.
          ap (λ (l : List StateInfo). (get_or l k d).start) states
          ∙ ap (λ (i : StateInfo). i.start) (get_or-map (info_at m.states) s.states k 0 d low)
          ∙ ap (λ (i : StateInfo). i.start) (get_or_default m.states (get_or s.states k 0) (record { name = []; start = None }) d (h.states.exist k 0 low));
      steps = λ state input st inp. rw (graph, next) (step_is state input st inp s.states h.states.exist all_named);
      hits = λ state input st inp. rw (graph, hits) (hit_named.value input state inp (st ∙ sym v.states));
    }
