-- The circuit of marked nodes.
use Rattle.std.specs.Prelude.{◌≡◌, ℕ, ◌+◌, Bool, true, List, length, All as Each}
use Rattle.aig_core.specs.Graph.{node_count}
use Rattle.bit_system.specs.Machine.{Machine}
use Rattle.bit_system.specs.Queries.{first_state}
use Rattle.point_cone.specs.Naming.{AreNamed}
use Rattle.point_cone.specs.Parts.{ArePlaces}
use Rattle.point_cone.specs.Reaching.{on}
use Rattle.point_cone.specs.declared.build.Small.{Small}

-- the marked leaves are its own, and the marked nodes have these names in it, with their values
pub record IsSmall (whole : Machine) (marks : List Bool) (names : List ℕ) (s : Small) : Type 0 where
  pub states : ArePlaces (length whole.states) s.states
  pub inputs : ArePlaces whole.graph.inputs s.inputs
  pub marked : Each (λ k. on marks (first_state whole + k) ≡ true) s.states
  pub state_count : s.aig.states ≡ length s.states
  pub input_count : s.aig.inputs ≡ length s.inputs
  pub size : length names ≡ node_count whole.graph
  pub named : AreNamed whole.graph s.aig s.inputs s.states marks names (node_count whole.graph)
