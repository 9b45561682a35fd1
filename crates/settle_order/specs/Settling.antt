-- What is answered for nodes.
use Rattle.std.specs.Prelude.{ℕ, List}
use Rattle.settle_order.specs.declared.nodes.Node.{Node}
use Rattle.settle_order.specs.declared.order.Settling.{Settling}
use Rattle.settle_order.specs.declared.order.Settling.TheVariants.{Order, Loop}
use Rattle.settle_order.specs.Orders.{IsOrder}
use Rattle.settle_order.specs.Loops.{IsLooped, IsLowestLoop}

-- the order, where no bit lies on a loop, else a loop of the lowest bit on one
abbrev pub Settles : List Node → Settling → Type 0
Settles nodes (Order order) = IsOrder nodes order × ((b : ℕ) → IsLooped nodes b → ⊥)
Settles nodes (Loop bits) = IsLowestLoop nodes bits
