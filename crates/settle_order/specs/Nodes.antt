-- Nodes that need some bits and drive some.
use Rattle.std.specs.Prelude.{◌≡◌, ℕ, ◌<◌, ◌⊎◌, List, [], Option, None, Some, length, slice_index_or, Contains}
use Rattle.settle_order.specs.declared.nodes.Node.{Node}

abbrev pub node_at : List Node → ℕ → Node
node_at nodes k = slice_index_or nodes k (record { needs = []; drives = [] })

-- node k needs bit b
abbrev pub Needs : List Node → ℕ → ℕ → Type 0
Needs nodes k b = Contains (node_at nodes k).needs b

-- node k drives bit b
abbrev pub Drives : List Node → ℕ → ℕ → Type 0
Drives nodes k b = Contains (node_at nodes k).drives b

-- the bits are below this count, and none is driven by two nodes
pub record IsNet (nodes : List Node) (bits : ℕ) : Type 0 where
  pub needed : (k b : ℕ) → Needs nodes k b → b < bits
  pub driven : (k b : ℕ) → Drives nodes k b → b < bits
  pub one_driver : (j k b : ℕ) → Drives nodes j b → Drives nodes k b → j ≡ k

-- for each bit the node that drives it, of the first nodes
pub record IsTable (nodes : List Node) (bits count : ℕ) (table : List (Option ℕ)) : Type 0 where
  pub size : length table ≡ bits
  pub drives : (k b : ℕ) → slice_index_or table b None ≡ Some k → Drives nodes k b
  pub each : (k b : ℕ) → k < count → Drives nodes k b → slice_index_or table b None ≡ Some k

-- the first of these bits have this driver, and no other bit has got one
pub record IsNoted (drives : List ℕ) (node count : ℕ) (old new : List (Option ℕ)) : Type 0 where
  pub size : length new ≡ length old
  pub noted : (j : ℕ) → j < count → slice_index_or new (slice_index_or drives j 0) None ≡ Some node
  pub kept : (b : ℕ) → (slice_index_or new b None ≡ slice_index_or old b None) ⊎ (Contains drives b × (slice_index_or new b None ≡ Some node))
