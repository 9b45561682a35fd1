-- What a contract sees of an `Aig`, what its literals are worth (as in AIGER 1.9), and what `and` makes of it.
use Rattle.std.specs.Prelude.{◌≡◌, ℕ, ◌+◌, ◌-◌, ◌*◌, ◌/◌, ◌%◌, ◌<◌, ◌≤◌, ◌==◌, max, min, suc, Bool, true, false, not, ◌&&◌, ◌||◌, List, [], ◌∷◌, ◌++◌, length, slice_index_or, if◌then◌else◌}
use Rattle.aig_core.specs.declared.gate.Gate.{Gate}

-- nodes: false, the inputs, the states, the gates
pub record Graph : Type 0 where
  pub inputs : ℕ
  pub states : ℕ
  pub gates : List Gate

-- how many values the leaves have: the inputs', then the states'
abbrev pub leaf_count : Graph → ℕ
leaf_count g = g.inputs + g.states

-- the node of the first gate
abbrev pub first_gate : Graph → ℕ
first_gate g = 1 + leaf_count g

-- how many nodes there are
abbrev pub node_count : Graph → ℕ
node_count g = first_gate g + length g.gates

-- the literal exists
abbrev pub IsLiteral : Graph → ℕ → Type 0
IsLiteral g x = x < 2 * node_count g

-- the opposite literal
abbrev pub negation : ℕ → ℕ
negation x = x + 1 - 2 * (x % 2)

-- each gate, of which the first is node n, reads literals of nodes before its own
abbrev pub ReadEarlierNodes : ℕ → List Gate → Type 0
ReadEarlierNodes n [] = Unit {0}
ReadEarlierNodes n (g ∷ gs) = (g.left < 2 * n) × (g.right < 2 * n) × ReadEarlierNodes (suc n) gs

-- each gate reads nodes before its own
abbrev pub IsWellFormed : Graph → Type 0
IsWellFormed g = ReadEarlierNodes (first_gate g) g.gates

-- ---- what a literal is worth

-- the opposite, where the first is true
abbrev pub not_if : Bool → Bool → Bool
not_if false b = b
not_if true b = not b

-- the value of a literal, from the values of the nodes
abbrev pub value_in : List Bool → ℕ → Bool
value_in values x = not_if (x % 2 == 1) (slice_index_or values (x / 2) false)

-- the value of a gate, from the values of the nodes before it
abbrev pub gate_value : List Bool → Gate → Bool
gate_value values g = value_in values g.left && value_in values g.right

-- the values of the nodes, from those of the nodes before the gates
abbrev pub values_with : List Bool → List Gate → List Bool
values_with values [] = values
values_with values (g ∷ gs) = values_with (values ++ gate_value values g ∷ []) gs

-- the values of all nodes
abbrev pub node_values : Graph → List Bool → List Bool
node_values g leaves = values_with (false ∷ leaves) g.gates

-- the value of a literal
abbrev pub value_of : Graph → List Bool → ℕ → Bool
value_of g leaves x = value_in (node_values g leaves) x

-- the new graph has the old one's gates first
pub record Extends (old new : Graph) : Type 0 where
  pub inputs : new.inputs ≡ old.inputs
  pub states : new.states ≡ old.states
  pub gates : (more : List Gate) × (new.gates ≡ old.gates ++ more)
  pub longer : length old.gates ≤ length new.gates

-- no literal of the old graph has another value in the new one
abbrev pub KeepsValues : Graph → Graph → Type 0
KeepsValues old new =
    (leaves : List Bool) → length leaves ≡ leaf_count old → (x : ℕ) → IsLiteral old x → value_of new leaves x ≡ value_of old leaves x

-- the new graph was made from the old one, and has a literal r that is worth v of the leaves
pub record Gives (old new : Graph) (r : ℕ) (v : List Bool → Bool) : Type 0 where
  pub extends : Extends old new
  pub well_formed : IsWellFormed new
  pub literal : IsLiteral new r
  pub value : (leaves : List Bool) → length leaves ≡ leaf_count old → value_of new leaves r ≡ v leaves

-- ---- what `and` makes

-- whether the gate has these sides
abbrev pub is_gate : ℕ → ℕ → Gate → Bool
is_gate left right g = (left == g.left) && (right == g.right)

-- the gates, with this one at the end unless it is among them
abbrev pub with_gate : ℕ → ℕ → List Gate → List Gate
with_gate left right [] = record { left = left; right = right } ∷ []
with_gate left right (g ∷ gs) = if is_gate left right g then g ∷ gs else g ∷ with_gate left right gs

-- and its place there
abbrev pub place_of : ℕ → ℕ → List Gate → ℕ
place_of left right [] = 0
place_of left right (g ∷ gs) = if is_gate left right g then 0 else suc (place_of left right gs)

-- the graph with this gate, and the literal of the gate's node
abbrev pub gate_of : Graph → ℕ → ℕ → Graph × ℕ
gate_of g left right =
    (record { inputs = g.inputs; states = g.states; gates = with_gate left right g.gates }, 2 * (first_gate g + place_of left right g.gates))

-- the graph after `and`, and the literal that it answers
unfoldable pub and_of : Graph → ℕ → ℕ → Graph × ℕ
and_of g x y =
    if x == 0 || y == 0 || x == negation y then (g, 0)
    else if x == 1 then (g, y)
    else if y == 1 || x == y then (g, x)
    else gate_of g (max x y) (min x y)

-- what it is worth
abbrev pub both : Graph → ℕ → ℕ → List Bool → Bool
both g x y leaves = value_of g leaves x && value_of g leaves y
