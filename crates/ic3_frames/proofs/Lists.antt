-- Lists: values read out, a last element taken away.
use Rattle.std.proofs.Common.{◌≡◌, ℕ, ◌+◌, ◌-◌, ◌≤◌, ◌<◌, Bool, false, List, [], ◌∷◌, ◌++◌, map, take, drop, length, get_or, refl, sym, ap, ◌∙◌, subst, arith}
use Rattle.std.specs.List.{remove, range_with_len, slice_range}
use Rattle.std.proofs.lemmas.List.{ext_get_or, get_or-take, get_or-drop, length-take-le, length-drop, append-nil}
use Rattle.std.proofs.lemmas.List.Edits.{remove-append_right}
use Rattle.std.proofs.lemmas.List.FromFn.{get_or-map-range_with_len, length-map-range_with_len}
use Rattle.cnf_core.specs.Literal.{Literal, HaveNoSolution}
use Rattle.sat_core.specs.Answers.{valuation, unit, IsCore}

-- so many values from a place on, as those of variables
pub values_read : (values : List Bool) (k n : ℕ) → k + n ≤ length values → slice_range values k (k + n) ≡ map (valuation values) (range_with_len (k + 1) n)
values_read values k n fits =
    let count : k + n - k ≡ n = omega arith in
    let long : length (take n (drop k values)) ≡ n = length-take-le n (drop k values) (omega (arith, length-drop k values)) in
    ap (λ (i : ℕ). take i (drop k values)) count
    ∙ ext_get_or false (take n (drop k values)) (map (valuation values) (range_with_len (k + 1) n)) (long ∙ sym (length-map-range_with_len (valuation values) (k + 1) n))
    (λ i low.
    let here : i < n = omega (arith, long) in
    let node : k + 1 + i - 1 ≡ k + i = omega arith in
    get_or-take n (drop k values) i false here ∙ get_or-drop k values i false ∙ ap (λ (j : ℕ). get_or values j false) (sym node)
    ∙ sym (get_or-map-range_with_len (valuation values) (k + 1) n i (k + 1 + i) false here refl))

pub remove_last : {X : Type 0} (xs : List X) (x : X) → remove (xs ++ x ∷ []) (length xs) ≡ xs
remove_last xs x =
    let none : length xs - length xs ≡ 0 = omega arith in
    remove-append_right xs (x ∷ []) (length xs) (length xs) refl (omega arith)
    ∙ ap (λ (i : ℕ). xs ++ remove (x ∷ []) i) none ∙ append-nil xs

-- the core of a call without assumptions is empty, so the clauses alone have no solution
pub empty_core : (clauses : List (List Literal)) (core : List Literal) → IsCore clauses [] core → core ≡ []
empty_core clauses core h = h.part.1

pub no_solution : (clauses : List (List Literal)) (core : List Literal) → IsCore clauses [] core → HaveNoSolution clauses
no_solution clauses core h =
    let none : clauses ++ map unit core ≡ clauses = ap (λ (c : List Literal). clauses ++ map unit c) (empty_core clauses core h) ∙ append-nil clauses in
    subst HaveNoSolution none h.impossible
