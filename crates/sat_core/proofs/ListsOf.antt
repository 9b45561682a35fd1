-- A list of vectors as a list of lists.
use Rattle.std.proofs.Common.{◌≡◌, ℕ, ◌-◌, ◌<◌, List, [], ◌∷◌, ◌++◌, Vec, Global, length, get_or, map, set, take, sym, ap, ◌∙◌, arith}
use Rattle.std.specs.List.{swap_remove}
use Rattle.std.proofs.lemmas.List.{map-set, get_or-map, get_or_default}
use Rattle.sat_core.specs.Watching.{list_at, listed, unlisted}

abbrev pub lists_of : List (Vec ℕ Global) → List (List ℕ)
lists_of xs = map (λ (v : Vec ℕ Global). v.items) xs

pub lists-at : (xs : List (Vec ℕ Global)) (p : ℕ) (was : Vec ℕ Global) → p < length xs → was ≡ get_or xs p was → list_at (lists_of xs) p ≡ was.items
lists-at xs p was h e = get_or-map (λ (v : Vec ℕ Global). v.items) xs p was [] h ∙ ap (λ (v : Vec ℕ Global). v.items) (sym e)

lists-set : (xs : List (Vec ℕ Global)) (p : ℕ) (now : Vec ℕ Global) (ys : List ℕ) → now.items ≡ ys → lists_of (set xs p now) ≡ set (lists_of xs) p ys
lists-set xs p now ys e = map-set (λ (v : Vec ℕ Global). v.items) xs p now ∙ ap (set (lists_of xs) p) e

pub lists-push :
    (xs : List (Vec ℕ Global)) (p clause : ℕ) (was now : Vec ℕ Global) → p < length xs → was ≡ get_or xs p was → now.items ≡ was.items ++ clause ∷ [] →
    lists_of (set xs p now) ≡ listed (lists_of xs) p clause
lists-push xs p clause was now h e items =
    lists-set xs p now (list_at (lists_of xs) p ++ clause ∷ []) (items ∙ ap (λ (ys : List ℕ). ys ++ clause ∷ []) (sym (lists-at xs p was h e)))

removed-default : (ys : List ℕ) (at d : ℕ) → at < length ys → swap_remove ys at d ≡ swap_remove ys at 0
removed-default ys at d h =
    let last : length ys - 1 < length ys = omega arith in
    ap (λ x. take (length ys - 1) (set ys at x)) (get_or_default ys (length ys - 1) d 0 last)

pub lists-remove :
    (xs : List (Vec ℕ Global)) (p at d : ℕ) (was now : Vec ℕ Global) → p < length xs → at < length (list_at (lists_of xs) p) → was ≡ get_or xs p was →
    now.items ≡ swap_remove was.items at d → lists_of (set xs p now) ≡ unlisted (lists_of xs) p at
lists-remove xs p at d was now h there e items =
    lists-set
    xs
    p
    now
    (swap_remove (list_at (lists_of xs) p) at 0)
    (items ∙ ap (λ (ys : List ℕ). swap_remove ys at d) (sym (lists-at xs p was h e)) ∙ removed-default (list_at (lists_of xs) p) at d there)
