-- How nodes are placed one after another, each waiting for one unknown bit at a time.
use Rattle.std.specs.Prelude.{◌≡◌, ◌↔◌, ℕ, ◌<◌, ◌≤◌, ◌⊎◌, Bool, true, false, cond, List, [], ◌++◌, Option, None, length, slice_index_or, slice_set, Contains}
use Rattle.std.specs.List.{sum_by, All as Each}
use Rattle.settle_order.specs.declared.nodes.Node.{Node}
use Rattle.settle_order.specs.declared.sweep.Sweep.{Sweep}
use Rattle.settle_order.specs.Nodes.{node_at, Needs}
use Rattle.settle_order.specs.Orders.{IsKnown, IsPlacing}

-- whether the flag of a number is up
abbrev pub on : List Bool → ℕ → Bool
on flags n = slice_index_or flags n false

-- how many flags are down
abbrev pub down : List Bool → ℕ
down flags = sum_by (λ b. cond b 0 1) flags

abbrev pub list_at : List (List ℕ) → ℕ → List ℕ
list_at lists n = slice_index_or lists n []

-- the needs before a place are known
pub record IsScanned (flags : List Bool) (needs : List ℕ) (at : ℕ) : Type 0 where
  pub within : at ≤ length needs
  pub known : (j : ℕ) → j < at → on flags (slice_index_or needs j 0) ≡ true

-- and the one there isn't, if there is one
pub record IsScan (known : List Bool) (needs : List ℕ) (at : ℕ) : Type 0 where
  pub scanned : IsScanned known needs at
  pub stops : at < length needs → on known (slice_index_or needs at 0) ≡ false

-- all needs of a node are known
abbrev pub AllKnown : List Node → List Bool → ℕ → Type 0
AllKnown nodes known k = (b : ℕ) → Needs nodes k b → on known b ≡ true

-- the tables fit the nodes
pub record IsSized (nodes : List Node) (s : Sweep) : Type 0 where
  pub placed : length s.placed ≡ length nodes
  pub scans : length s.scanned ≡ length nodes
  pub waiting : length s.waiting ≡ length s.known
  pub needs : (k b : ℕ) → Needs nodes k b → b < length s.known
  pub drives : (k : ℕ) → Each (λ b. b < length s.known) (node_at nodes k).drives
  pub scanned : (k : ℕ) → IsScanned s.known (node_at nodes k).needs (slice_index_or s.scanned k 0)

-- the node exists, and isn't placed
pub record IsLeft (nodes : List Node) (flags : List Bool) (k : ℕ) : Type 0 where
  pub exists : k < length nodes
  pub unplaced : on flags k ≡ false

-- and it can be placed
pub record CanPlace (nodes : List Node) (s : Sweep) (k : ℕ) : Type 0 where
  pub left : IsLeft nodes s.placed k
  pub known : AllKnown nodes s.known k

-- node k waits for bit b, which it needs and which isn't known
pub record WaitsFor (nodes : List Node) (s : Sweep) (b k : ℕ) : Type 0 where
  pub exists : k < length nodes
  pub needs : Needs nodes k b
  pub unknown : on s.known b ≡ false

-- each node that isn't placed is ready, moving, or waits for an unknown bit that it needs
pub record IsSwept (nodes : List Node) (s : Sweep) (moving : List ℕ) : Type 0 where
  pub sized : IsSized nodes s
  pub ready : Each (CanPlace nodes s) s.ready.keys
  pub moves : Each (IsLeft nodes s.placed) moving
  pub waiting : (b k : ℕ) → Contains (list_at s.waiting b) k → WaitsFor nodes s b k
  pub placed : (k : ℕ) → on s.placed k ≡ true → AllKnown nodes s.known k
  pub each : (k : ℕ) → IsLeft nodes s.placed k → Contains s.ready.keys k ⊎ (Contains moving k ⊎ ((b : ℕ) × Contains (list_at s.waiting b) k))

-- the order so far is that of the placed nodes, and the flags say what is known by it
pub record IsOrdered (nodes : List Node) (s : Sweep) : Type 0 where
  pub placing : IsPlacing nodes [] s.order
  pub placed : (k : ℕ) → Contains s.order k ↔ (on s.placed k ≡ true)
  pub known : (b : ℕ) → b < length s.known → (on s.known b ≡ true) ↔ IsKnown nodes s.order b

-- no node can be placed any more
pub record IsStuck (nodes : List Node) (bits : ℕ) (s : Sweep) : Type 0 where
  pub swept : IsSwept nodes s []
  pub ordered : IsOrdered nodes s
  pub size : length s.known ≡ bits
  pub none : s.ready.keys ≡ []

-- the same nodes are placed, and the same bits known
pub record SameFlags (old new : Sweep) : Type 0 where
  pub known : new.known ≡ old.known
  pub placed : new.placed ≡ old.placed
  pub order : new.order ≡ old.order

-- the bits that the table has no driver for
pub record IsUndriven (table : List (Option ℕ)) (known : List Bool) : Type 0 where
  pub size : length known ≡ length table
  pub undriven : (b : ℕ) → b < length table → (on known b ≡ true) ↔ (slice_index_or table b None ≡ None)

-- a bit became known, and those that waited for it are loose
pub record Releases (bit : ℕ) (old new : Sweep) (moving more : List ℕ) : Type 0 where
  pub sweep : new ≡ record old { known = slice_set old.known bit true; waiting = slice_set old.waiting bit [] }
  pub loose : more ≡ moving ++ list_at old.waiting bit

-- the first of these bits are known too
pub record IsRaised (bits : List ℕ) (count : ℕ) (old new : List Bool) : Type 0 where
  pub size : length new ≡ length old
  pub raised : (j : ℕ) → j < count → on new (slice_index_or bits j 0) ≡ true
  pub kept : (b : ℕ) → on old b ≡ true → on new b ≡ true
  pub only : (b : ℕ) → on new b ≡ true → (on old b ≡ true) ⊎ Contains bits b
