-- Names of nodes: literals of a smaller circuit that have their values.
use Rattle.std.specs.Prelude.{◌≡◌, ℕ, suc, ◌+◌, ◌*◌, ◌/◌, ◌%◌, ◌<◌, ◌≤◌, ◌==◌, Bool, true, false, cond, List, [], ◌∷◌, ◌++◌, length, slice_index_or, slice_set, AllPairs, All as Each}
use Rattle.aig_core.specs.declared.gate.Gate.{Gate}
use Rattle.aig_core.specs.Graph.{Graph, IsLiteral, negation, and_of, node_values, value_of}
use Rattle.point_cone.specs.Reaching.{on}
use Rattle.point_cone.specs.Parts.{part}

-- the name of a literal, from those of the nodes
abbrev pub name_of : List ℕ → ℕ → ℕ
name_of names x = cond (x % 2 == 1) (negation (slice_index_or names (x / 2) 0)) (slice_index_or names (x / 2) 0)

-- a circuit, and the names that it gives
pub record Renamed : Type 0 where
  pub graph : Graph
  pub names : List ℕ

-- the gate at node n over the names of its sides
abbrev pub name_gate : ℕ → Gate → Renamed → Renamed
name_gate n g r =
    record {
      graph = (and_of r.graph (name_of r.names g.left) (name_of r.names g.right)).0;
      names = slice_set r.names n (and_of r.graph (name_of r.names g.left) (name_of r.names g.right)).1;
    }

-- and where the node is marked
abbrev pub name_at : List Bool → ℕ → Gate → Renamed → Renamed
name_at marks n g r = cond (on marks n) (name_gate n g r) r

-- the marked gates, of which the first is node n
abbrev pub name_gates : List Bool → ℕ → List Gate → Renamed → Renamed
name_gates marks n [] r = r
name_gates marks n (g ∷ gs) r = name_gates marks (suc n) gs (name_at marks n g r)

-- the marked ones of the leaves, of which the first is node `first`, are leaves from node `from` on
pub record AreLeaves (marks : List Bool) (old new : List ℕ) (first count from : ℕ) (places : List ℕ) : Type 0 where
  pub exist : Each (λ k. k < count) places
  pub rise : AllPairs (λ j k. j < k) places
  pub few : length places ≤ count
  pub marked : Each (λ k. on marks (first + k) ≡ true) places
  pub named : (k : ℕ) → k < count → on marks (first + k) ≡ true →
      (j : ℕ) × (j < length places) × (slice_index_or places j 0 ≡ k) × (slice_index_or new (first + k) 0 ≡ 2 * (from + j))
  pub same : (n : ℕ) → n < first → slice_index_or new n 0 ≡ slice_index_or old n 0
  pub bound : (most : ℕ) → from + length places ≤ most → Each (λ x. x < 2 * most) old → Each (λ x. x < 2 * most) new
  pub size : length new ≡ length old

-- the node's name has its value
pub record IsNamed (whole small : Graph) (inputs states names : List ℕ) (n : ℕ) : Type 0 where
  pub literal : IsLiteral small (slice_index_or names n 0)
  pub value : (input state : List Bool) → length input ≡ whole.inputs → length state ≡ whole.states →
      value_of small (part inputs input ++ part states state) (slice_index_or names n 0) ≡ slice_index_or (node_values whole (input ++ state)) n false

-- each marked node before this one has a name with its value
abbrev pub AreNamed : Graph → Graph → List ℕ → List ℕ → List Bool → List ℕ → ℕ → Type 0
AreNamed whole small inputs states marks names most = (n : ℕ) → n < most → on marks n ≡ true → IsNamed whole small inputs states names n
