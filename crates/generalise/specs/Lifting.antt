-- Parts of a state that force literals, and the nodes of a circuit whose values are needed for it.
use Rattle.std.specs.Prelude.{◌≡◌, ℕ, ◌+◌, ◌/◌, ◌<◌, ◌≤◌, ◌⊎◌, Bool, true, false, Some, List, slice_get, slice_index_or, All as Each}
use Rattle.aig_core.specs.declared.gate.Gate.{Gate}
use Rattle.aig_core.specs.Graph.{value_in}
use Rattle.bit_system.specs.declared.ladder.StateLit.{StateLit}
use Rattle.bit_system.specs.Machine.{Machine, IsState, value_in_step}
use Rattle.bit_system.specs.Accepted.{Rises}
use Rattle.generalise.specs.Cubes.{in_cube}

-- in each state of the cube the literals are true under the input
abbrev pub Forces : Machine → List Bool → List ℕ → List StateLit → Type 0
Forces m input goal cube =
    (state : List Bool) → IsState m state → in_cube state cube ≡ true → Each (λ x. value_in_step m state input x ≡ true) goal

-- whether a node is marked
abbrev pub on : List Bool → ℕ → Bool
on marks n = slice_index_or marks n false

-- a marked side that is false
abbrev pub IsOff : List Bool → List Bool → ℕ → Type 0
IsOff values marks x = (value_in values x ≡ false) × (on marks (x / 2) ≡ true)

-- the values of the marked sides give that of the gate
abbrev pub IsSupported : List Bool → List Bool → Gate → Type 0
IsSupported values marks g = IsOff values marks g.left ⊎ IsOff values marks g.right ⊎ ((on marks (g.left / 2) ≡ true) × (on marks (g.right / 2) ≡ true))

-- so it is for each marked gate from the place `from` on, where the first gate is node `first`
pub record AreSupported (values marks : List Bool) (first : ℕ) (gates : List Gate) (from : ℕ) : Type 0 where
  pub each : (i : ℕ) (g : Gate) → from ≤ i → slice_get gates i ≡ Some g → on marks (first + i) ≡ true → IsSupported values marks g

-- the marks of before stay, and from a node on there are no others
pub record Grows (old new : List Bool) (from : ℕ) : Type 0 where
  pub kept : (n : ℕ) → on old n ≡ true → on new n ≡ true
  pub same : (n : ℕ) → from ≤ n → on new n ≡ on old n

-- the cube has the values of the marked ones of the first bits, of which the first is node `first`
pub record IsGathered (marks state : List Bool) (first count : ℕ) (cube : List StateLit) : Type 0 where
  pub in_range : Each (λ l. l.state < count) cube
  pub rises : Rises cube
  pub inside : in_cube state cube ≡ true
  pub says : (k : ℕ) (other : List Bool) → k < count → on marks (first + k) ≡ true → in_cube other cube ≡ true →
      slice_index_or other k false ≡ slice_index_or state k false
