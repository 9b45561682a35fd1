-- Loops of bits, each needed by the driver of the next.
use Rattle.std.specs.Prelude.{ℕ, ◌≤◌, List, [], ◌∷◌}
use Rattle.settle_order.specs.declared.nodes.Node.{Node}
use Rattle.settle_order.specs.Nodes.{Needs, Drives}

-- bit b is needed by the driver of bit c
pub record Feeds (nodes : List Node) (b c : ℕ) : Type 0 where
  pub by : ℕ
  pub needs : Needs nodes by b
  pub drives : Drives nodes by c

-- bit b feeds the first bit of the list, each the next, and the last one bit c
abbrev pub IsChain : List Node → ℕ → List ℕ → ℕ → Type 0
IsChain nodes b [] c = Feeds nodes b c
IsChain nodes b (x ∷ xs) c = Feeds nodes b x × IsChain nodes x xs c

-- bit b lies on a loop
abbrev pub IsLooped : List Node → ℕ → Type 0
IsLooped nodes b = (between : List ℕ) × IsChain nodes b between b

-- each bit feeds the next, the last one feeds the first, and no lower bit than the first lies on a loop
abbrev pub IsLowestLoop : List Node → List ℕ → Type 0
IsLowestLoop nodes [] = ⊥
IsLowestLoop nodes (b ∷ rest) = IsChain nodes b rest b × ((c : ℕ) → IsLooped nodes c → b ≤ c)
