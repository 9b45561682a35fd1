use Rattle.std.proofs.Common.{◌<◌, ℕ, Vec, Global, length, map, arith}
use Rattle.std.proofs.lemmas.List.{length-map}
use Rattle.sat_core.specs.Assigned.{place_of}
use Rattle.sat_core.proofs.ListsOf.{lists-push}
use Rattle.sat_core.proofs.watches.Watches.list.Goals as goal

pub returns-clause-ok : goal.returns-clause-ok
returns-clause-ok c =
    let xs = c.self.inside.lists.items in
    let asked : place_of c.args.literal < length (map (λ (v : Vec ℕ Global). v.items) c.self.inside.lists.items) = rw (← c.self.view_is) at c.requires in
    let inside : c.place.result < length c.self.inside.lists.items = omega (arith, length-map c.self.inside.lists.items (λ (v : Vec ℕ Global). v.items), c.place.ensures.value) in
    rw
    (← c.self.view_is, ← c.place.ensures.value)
    (lists-push c.self.inside.lists.items c.place.result c.args.clause c.index_mut.result.now c.push.new.self inside c.index_mut.ensures.value c.in_ok-push.ensures.items)
