-- A list of vectors as a list of lists.
use Rattle.std.proofs.Common.{◌≡◌, ℕ, ◌<◌, List, [], ◌∷◌, ◌++◌, Vec, Global, length, get_or, map, set, sym, ap, ◌∙◌}
use Rattle.std.proofs.lemmas.List.{map-set, get_or-map}
use Rattle.settle_order.specs.Sweeping.{list_at}

abbrev pub lists_of : List (Vec ℕ Global) → List (List ℕ)
lists_of xs = map (λ (v : Vec ℕ Global). v.items) xs

pub lists-at : (xs : List (Vec ℕ Global)) (p : ℕ) (was : Vec ℕ Global) → p < length xs → was ≡ get_or xs p was → list_at (lists_of xs) p ≡ was.items
lists-at xs p was h e = get_or-map (λ (v : Vec ℕ Global). v.items) xs p was [] h ∙ ap (λ (v : Vec ℕ Global). v.items) (sym e)

pub lists-set : (xs : List (Vec ℕ Global)) (p : ℕ) (now : Vec ℕ Global) (ys : List ℕ) → now.items ≡ ys → lists_of (set xs p now) ≡ set (lists_of xs) p ys
lists-set xs p now ys e = map-set (λ (v : Vec ℕ Global). v.items) xs p now ∙ ap (set (lists_of xs) p) e

pub lists-push :
    (xs : List (Vec ℕ Global)) (p node : ℕ) (was now : Vec ℕ Global) → p < length xs → was ≡ get_or xs p was → now.items ≡ was.items ++ node ∷ [] →
    lists_of (set xs p now) ≡ set (lists_of xs) p (list_at (lists_of xs) p ++ node ∷ [])
lists-push xs p node was now h e items =
    lists-set xs p now (list_at (lists_of xs) p ++ node ∷ []) (items ∙ ap (λ (ys : List ℕ). ys ++ node ∷ []) (sym (lists-at xs p was h e)))
