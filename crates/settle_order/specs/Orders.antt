-- The order of nodes: again and again the lowest one whose needs are all known.
use Rattle.std.specs.Prelude.{ℕ, ◌<◌, ◌≤◌, List, [], ◌∷◌, ◌++◌, length, Contains}
use Rattle.settle_order.specs.declared.nodes.Node.{Node}
use Rattle.settle_order.specs.Nodes.{Needs, Drives}

-- once these nodes are placed, bit b is known: no other node drives it
abbrev pub IsKnown : List Node → List ℕ → ℕ → Type 0
IsKnown nodes placed b = (k : ℕ) → Drives nodes k b → Contains placed k

-- node k isn't placed, and all that it needs is known
pub record IsReady (nodes : List Node) (placed : List ℕ) (k : ℕ) : Type 0 where
  pub exists : k < length nodes
  pub unplaced : Contains placed k → ⊥
  pub known : (b : ℕ) → Needs nodes k b → IsKnown nodes placed b

-- and it is the lowest such node
pub record IsNext (nodes : List Node) (placed : List ℕ) (k : ℕ) : Type 0 where
  pub ready : IsReady nodes placed k
  pub lowest : (j : ℕ) → IsReady nodes placed j → k ≤ j

-- so is each node of the list once those before it are placed too
abbrev pub IsPlacing : List Node → List ℕ → List ℕ → Type 0
IsPlacing nodes placed [] = Unit {0}
IsPlacing nodes placed (k ∷ rest) = IsNext nodes placed k × IsPlacing nodes (placed ++ k ∷ []) rest

-- the nodes in their order, each of them
pub record IsOrder (nodes : List Node) (order : List ℕ) : Type 0 where
  pub placing : IsPlacing nodes [] order
  pub each : (k : ℕ) → k < length nodes → Contains order k
