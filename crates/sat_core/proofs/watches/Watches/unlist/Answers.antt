use Rattle.std.proofs.Common.{◌≡◌, ◌<◌, ℕ, List, Vec, Global, length, map, ap, arith, set as slice_set}
use Rattle.std.proofs.lemmas.List.{length-map}
use Rattle.sat_core.specs.Assigned.{place_of}
use Rattle.sat_core.specs.Watching.{list_at, unlisted}
use Rattle.sat_core.proofs.ListsOf.{lists-remove}
use Rattle.sat_core.proofs.watches.Watches.unlist.Goals as goal

pub returns : goal.returns
returns c =
    let asked : place_of c.args.literal < length (map (λ (v : Vec ℕ Global). v.items) c.self.inside.lists.items) = rw (← c.self.view_is) at c.requires.within in
    let inside : c.place.result < length c.self.inside.lists.items = omega (arith, length-map c.self.inside.lists.items (λ (v : Vec ℕ Global). v.items), c.place.ensures.value) in
    let there : c.args.at < length (list_at (map (λ (v : Vec ℕ Global). v.items) c.self.inside.lists.items) (place_of c.args.literal)) = rw (← c.self.view_is) at c.requires.there in
    let there_too : c.args.at < length (list_at (map (λ (v : Vec ℕ Global). v.items) c.self.inside.lists.items) c.place.result) = rw (← c.place.ensures.value) at there in
    let lists : map (λ (v : Vec ℕ Global). v.items) (slice_set c.self.inside.lists.items c.place.result c.swap_remove.new.self) ≡ unlisted (map (λ (v : Vec ℕ Global). v.items) c.self.inside.lists.items) c.place.result c.args.at =
    lists-remove c.self.inside.lists.items c.place.result c.args.at c.swap_remove.result c.index_mut.result.now c.swap_remove.new.self inside there_too c.index_mut.ensures.value c.swap_remove.ensures.items in
    rw
    (← c.self.view_is, ← c.place.ensures.value)
    (ap (λ (ls : List (List ℕ)). record { lists = ls; pairs = c.self.inside.pairs.items }) lists)
