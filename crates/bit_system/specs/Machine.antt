-- Bit-level transition systems, their walks, and where a point is hit.
use Rattle.std.specs.Prelude.{◌≡◌, ℕ, ◌<◌, ◌≤◌, ◌^◌, Bool, true, false, Some, List, [], ◌∷◌, ◌++◌, map, take, length, slice_index_or, All}
use Rattle.aig_core.specs.Graph.{Graph, node_count, IsLiteral, IsWellFormed, value_of}
use Rattle.bit_system.specs.declared.system.StateInfo.{StateInfo}

-- a circuit, its state bits, the literal that gives each of them after a step, the literal that each point is hit by,
-- and the number of steps before those that count
pub record Machine : Type 0 where
  pub graph : Graph
  pub states : List StateInfo
  pub next : List ℕ
  pub hits : List ℕ
  pub prelude : ℕ

-- each state bit of the circuit has a next literal, and all literals are the circuit's
pub record PartsFit (graph : Graph) (states : List StateInfo) (next hits : List ℕ) : Type 0 where
  pub state_count : graph.states ≡ length states
  pub next_count : length next ≡ length states
  pub next_exist : All (IsLiteral graph) next
  pub hits_exist : All (IsLiteral graph) hits

-- the parts of a system fit
pub record IsMachine (m : Machine) : Type 0 where
  pub well_formed : IsWellFormed m.graph
  pub small : node_count m.graph ≤ 2 ^ 30
  pub states : m.graph.states ≡ length m.states
  pub next_count : length m.next ≡ length m.states
  pub next_exist : All (IsLiteral m.graph) m.next
  pub hits_exist : All (IsLiteral m.graph) m.hits

-- the literal of a state bit after a step
abbrev pub next_literal : Machine → ℕ → ℕ
next_literal m i = slice_index_or m.next i 0

-- the literal that a point is hit by
abbrev pub hit_literal : Machine → ℕ → ℕ
hit_literal m point = slice_index_or m.hits point 0

-- a value for each state bit
abbrev pub IsState : Machine → List Bool → Type 0
IsState m state = length state ≡ length m.states

-- a value for each input
abbrev pub IsInput : Machine → List Bool → Type 0
IsInput m input = length input ≡ m.graph.inputs

-- the value of a literal in a state, under an input
abbrev pub value_in_step : Machine → List Bool → List Bool → ℕ → Bool
value_in_step m state input x = value_of m.graph (input ++ state) x

-- the state after a step
abbrev pub next_state : Machine → List Bool → List Bool → List Bool
next_state m state input = map (value_in_step m state input) m.next

-- the state after the steps with these inputs
abbrev pub state_after : Machine → List Bool → List (List Bool) → List Bool
state_after m state [] = state
state_after m state (input ∷ inputs) = state_after m (next_state m state input) inputs

-- a state that agrees with the starting values
pub record IsStart (m : Machine) (state : List Bool) : Type 0 where
  pub is_state : IsState m state
  pub agrees : (i : ℕ) (b : Bool) (d : StateInfo) → i < length m.states → (slice_index_or m.states i d).start ≡ Some b → slice_index_or state i false ≡ b

-- a walk of the system: a permitted start, and an input for each step
pub record IsWalk (m : Machine) (start : List Bool) (inputs : List (List Bool)) : Type 0 where
  pub starts : IsStart m start
  pub each_input : All (IsInput m) inputs

-- the walk makes the point's literal true in step t
pub record HitsAt (m : Machine) (point : ℕ) (start : List Bool) (inputs : List (List Bool)) (t : ℕ) : Type 0 where
  pub within : t < length inputs
  pub hit : value_in_step m (state_after m start (take t inputs)) (slice_index_or inputs t []) (hit_literal m point) ≡ true
