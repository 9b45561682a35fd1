use Rattle.std.proofs.Common.{◌≡◌, ◌<◌, ℕ, Bool, List, length, true, sym, subst}
use Rattle.settle_order.specs.Orders.{IsOrder}
use Rattle.settle_order.specs.Sweeping.{on}
use Rattle.settle_order.proofs.Placing.{all_placed}
use Rattle.settle_order.proofs.Chains.{no_loops}
use Rattle.settle_order.proofs.order.settle.Goals as goal

pub returns-in-None : goal.returns-in-None
returns-in-None c =
    let nodes = c.args.nodes.now in
    let placed = subst (λ (xs : List Bool). (k : ℕ) → k < length xs → on xs k ≡ true) c.as_slice.ensures c.in-None.ensures in
    let order = subst (IsOrder nodes) (sym c.into_order.ensures) (all_placed nodes (length c.as_slice-table.result.now) c.in_ok-sweep.sweep c.in_ok-sweep.ensures placed) in
    (order, no_loops nodes c.args.bits c.into_order.result c.requires.net order)
