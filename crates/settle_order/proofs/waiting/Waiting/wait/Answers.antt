use Rattle.std.proofs.Common.{◌<◌, ℕ, Vec, Global, length, arith}
use Rattle.std.proofs.lemmas.List.{length-map}
use Rattle.settle_order.proofs.Lists.{lists_of, lists-push}
use Rattle.settle_order.proofs.waiting.Waiting.wait.Goals as goal

pub returns : goal.returns
returns c =
    let asked : c.args.bit < length (lists_of c.self.inside.lists.items) = rw (← c.self.view_is) at c.requires in
    let inside : c.args.bit < length c.self.inside.lists.items = omega (arith, length-map c.self.inside.lists.items (λ (v : Vec ℕ Global). v.items)) in
    rw (← c.self.view_is)
    (lists-push c.self.inside.lists.items c.args.bit c.args.node c.index_mut.result.now c.push.new.self inside c.index_mut.ensures.value c.in_ok-push.ensures.items)
