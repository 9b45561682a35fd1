-- Where the clauses that watch a literal are found.
use Rattle.std.proofs.Common.{◌≡◌, ◌≢◌, ℕ, ◌-◌, ◌<◌, ◌≤◌, true, false, inl, inr, List, [], ◌∷◌, ◌++◌, length, get_or, set, take, refl, sym, ap, ◌∙◌, arith, length-set, get_or-set_same, get_or-set_other}
use Rattle.std.specs.List.{swap_remove}
use Rattle.std.proofs.lemmas.Bool.{cases_eq}
use Rattle.std.proofs.lemmas.List.{length_push, length-take, get_or-take, get_or_at, get_or_append_left}
use Rattle.cnf_core.specs.Literal.{Literal, same_literal}
use Rattle.cnf_core.specs.Lrat.{is_false}
use Rattle.sat_core.specs.Assigned.{place_of, stands_at}
use Rattle.sat_core.specs.Watching.{StandsFrom, IsListed, list_at, listed, unlisted}
use Rattle.sat_core.specs.declared.watches.Pair.{Pair}
use Rattle.sat_core.proofs.Marks.{is_false-place}
use Rattle.sat_core.proofs.Sets.{same-refl, or-false}

-- a false literal has another place than one that isn't
pub place-apart : (fs : List Literal) (l m : Literal) → is_false fs l ≡ false → is_false fs m ≡ true → place_of l ≢ place_of m
place-apart fs l m e f same =
    let a : is_false fs l ≡ is_false fs m = is_false-place fs l ∙ ap (stands_at fs) same ∙ sym (is_false-place fs m) in
    cc

-- literals that differ have different places
pub place-differs : (l m : Literal) → same_literal l m ≡ false → place_of l ≢ place_of m
place-differs l m e =
    place-apart (m ∷ []) l m (or-false (same_literal l m) ∙ e) (or-false (same_literal m m) ∙ same-refl m)

pub Stands-append : (from clause k : ℕ) (xs : List ℕ) → StandsFrom from k xs → StandsFrom from k (xs ++ clause ∷ [])
Stands-append from clause k xs s = record {
  at = s.at;
  low = s.low;
  inside = (let h = s.inside in omega (arith, length_push xs clause));
  here = get_or_append_left xs (clause ∷ []) 0 s.at s.inside ∙ s.here;
}

pub Stands-last : (clause : ℕ) (xs : List ℕ) → StandsFrom 0 clause (xs ++ clause ∷ [])
Stands-last clause xs = record {
  at = length xs;
  low = omega arith;
  inside = omega (arith, length_push xs clause);
  here = get_or_at xs clause [] 0 (length xs) refl;
}

pub list_at-listed : (lists : List (List ℕ)) (p clause : ℕ) → p < length lists → list_at (listed lists p clause) p ≡ list_at lists p ++ clause ∷ []
list_at-listed lists p clause h = get_or-set_same lists p (list_at lists p ++ clause ∷ []) [] h

pub list_at-other : (lists : List (List ℕ)) (p clause q : ℕ) → q ≢ p → list_at (listed lists p clause) q ≡ list_at lists q
list_at-other lists p clause q h = get_or-set_other lists p q (list_at lists p ++ clause ∷ []) [] h

pub Stands-listed :
    (lists : List (List ℕ)) (p clause q k : ℕ) → p < length lists → StandsFrom 0 k (list_at lists q) → StandsFrom 0 k (list_at (listed lists p clause) q)
Stands-listed lists p clause q k h s = elim (cases_eq q p) [
  | inl e ↦ rw (e, list_at-listed lists p clause h) (Stands-append 0 clause k (list_at lists p) (rw e at s))
  | inr n ↦ rw (list_at-other lists p clause q n) s
]

pub Stands-new : (lists : List (List ℕ)) (p clause : ℕ) → p < length lists → StandsFrom 0 clause (list_at (listed lists p clause) p)
Stands-new lists p clause h = rw (list_at-listed lists p clause h) (Stands-last clause (list_at lists p))

-- the last clause takes the place of one that is taken out
pub Stands-removed :
    (xs : List ℕ) (at from k : ℕ) → at < length xs → from ≤ at → k ≢ get_or xs at 0 → StandsFrom from k xs → StandsFrom from k (swap_remove xs at 0)
Stands-removed xs at from k h low other s = elim (cases_eq s.at (length xs - 1)) [
  | inl e ↦ last e
  | inr n ↦ before n
]
  where
    moved : List ℕ
    moved = set xs at (get_or xs (length xs - 1) 0)

    apart : s.at ≡ at → ⊥
    apart e = other (sym s.here ∙ ap (λ i. get_or xs i 0) e)

    last : s.at ≡ length xs - 1 → StandsFrom from k (take (length xs - 1) moved)
    last e =
        let inside : at < length xs - 1 = elim (cases_eq at (length xs - 1)) [
          | inl same ↦ absurd (apart (e ∙ sym same))
          | inr n ↦ omega (arith, n)
        ] in
        record {
          at = at;
          low = low;
          inside = omega (arith, length-take (length xs - 1) moved, length-set xs at (get_or xs (length xs - 1) 0));
          here = get_or-take (length xs - 1) moved at 0 inside ∙ get_or-set_same xs at (get_or xs (length xs - 1) 0) 0 h ∙ ap (λ i. get_or xs i 0) (sym e) ∙ s.here;
        }

    before : (s.at ≡ length xs - 1 → ⊥) → StandsFrom from k (take (length xs - 1) moved)
    before n =
        let there = s.inside in
        let inside : s.at < length xs - 1 = omega (arith, n, there) in
        record {
          at = s.at;
          low = s.low;
          inside = omega (arith, length-take (length xs - 1) moved, length-set xs at (get_or xs (length xs - 1) 0));
          here = get_or-take (length xs - 1) moved s.at 0 inside ∙ get_or-set_other xs at s.at (get_or xs (length xs - 1) 0) 0 apart ∙ s.here;
        }

pub list_at-unlisted : (lists : List (List ℕ)) (p at : ℕ) → p < length lists → list_at (unlisted lists p at) p ≡ swap_remove (list_at lists p) at 0
list_at-unlisted lists p at h = get_or-set_same lists p (swap_remove (list_at lists p) at 0) [] h

pub Stands-unlisted :
    (lists : List (List ℕ)) (p at q k : ℕ) → p < length lists → at < length (list_at lists p) → (q ≡ p → k ≢ get_or (list_at lists p) at 0) →
    StandsFrom 0 k (list_at lists q) → StandsFrom 0 k (list_at (unlisted lists p at) q)
Stands-unlisted lists p at q k h there other s = elim (cases_eq q p) [
  | inl e ↦ rw (e, list_at-unlisted lists p at h) (Stands-removed (list_at lists p) at 0 k there (omega arith) (other e) (rw e at s))
  | inr n ↦ rw (get_or-set_other lists p q (swap_remove (list_at lists p) at 0) [] n) s
]

pub IsListed-listed :
    (clause : List Literal) (pair : Pair) (lists : List (List ℕ)) (p k j : ℕ) → p < length lists → IsListed clause pair lists j → IsListed clause pair (listed lists p k) j
IsListed-listed clause pair lists p k j h l = record {
  first_in = l.first_in;
  second_in = l.second_in;
  first_listed = Stands-listed lists p k (place_of pair.first) j h l.first_listed;
  second_listed = Stands-listed lists p k (place_of pair.second) j h l.second_listed;
}
