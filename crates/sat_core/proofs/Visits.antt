-- Which clauses a visit of a false literal's list has still to look at.
use Rattle.std.proofs.Common.{◌≡◌, ◌≢◌, ℕ, ◌+◌, ◌<◌, ◌≤◌, Bool, true, false, ◌||◌, ◌⊎◌, inl, inr, List, length, get_or, take, refl, sym, ap, ◌∙◌, arith, length-set}
use Rattle.std.specs.List.{swap_remove}
use Rattle.std.proofs.lemmas.Bool.{cases_eq}
use Rattle.std.proofs.lemmas.List.{take_more}
use Rattle.cnf_core.specs.Literal.{Literal, same_literal}
use Rattle.cnf_core.specs.Lrat.{is_false}
use Rattle.sat_core.specs.Assigned.{no_literal, place_of}
use Rattle.sat_core.specs.Closing.{Within}
use Rattle.sat_core.specs.Trailed.{clause_in, is_satisfied}
use Rattle.sat_core.specs.Watching.{Watching, StandsFrom, AreOpen, IsWatched, AreWatched, AreListed, IsOff, Rewatches, pair_at, list_at, unlisted}
use Rattle.sat_core.specs.declared.watches.Pair.{Pair}
use Rattle.sat_core.proofs.Sets.{same-is, or-false, is_false-push}
use Rattle.sat_core.proofs.WatchLists.{Stands-removed, Stands-unlisted, list_at-unlisted}
use Rattle.sat_core.proofs.WatchPairs.{AreOpen-fewer, IsWatched-open, IsWatched-satisfied, IsWatched-grow}

-- the clause watches the literal at the place `p`, whose list has it from `at` on
pub record IsAhead (p at k : ℕ) (pair : Pair) (lists : List (List ℕ)) : Type 0 where
  pub on : (place_of pair.first ≡ p) ⊎ (place_of pair.second ≡ p)
  pub stands : StandsFrom at k (list_at lists p)

abbrev pub Touches : List (List Literal) → Watching → ℕ → ℕ → List Literal → List Literal → Type 0
Touches clauses w p at front falses =
    (k : ℕ) → k < length w.pairs → IsWatched (clause_in clauses k) (pair_at w.pairs k) front falses ⊎ IsAhead p at k (pair_at w.pairs k) w.lists

-- a literal of the front's last place, or of the front before
more-front : (fs : List Literal) (done : ℕ) (l : Literal) → done < length fs → is_false (take (done + 1) fs) l ≡ true → place_of l ≢ place_of (get_or fs done no_literal) → is_false (take done fs) l ≡ true
more-front fs done l h e apart = by_same (same_literal l (get_or fs done no_literal)) refl
  where
    whole : (is_false (take done fs) l || same_literal l (get_or fs done no_literal)) ≡ true
    whole = sym (is_false-push (take done fs) (get_or fs done no_literal) l) ∙ ap (λ (ls : List Literal). is_false ls l) (sym (take_more fs done no_literal h)) ∙ e

    by_same : (b : Bool) → same_literal l (get_or fs done no_literal) ≡ b → is_false (take done fs) l ≡ true
    by_same true s = absurd (apart (ap place_of (same-is l (get_or fs done no_literal) s)))
    by_same false s = sym (or-false (is_false (take done fs) l)) ∙ (rw s at whole)

pub Touches-start :
    (clauses : List (List Literal)) (w : Watching) (fs : List Literal) (done : ℕ) → done < length fs → AreListed clauses w →
    AreWatched clauses w.pairs (take done fs) fs → Touches clauses w (place_of (get_or fs done no_literal)) 0 (take (done + 1) fs) fs
Touches-start clauses w fs done h listed watched k lt = by_first (cases_eq (place_of (pair_at w.pairs k).first) p) (cases_eq (place_of (pair_at w.pairs k).second) p)
  where
    p : ℕ
    p = place_of (get_or fs done no_literal)

    by_first :
        (place_of (pair_at w.pairs k).first ≡ p) ⊎ (place_of (pair_at w.pairs k).first ≡ p → ⊥) →
        (place_of (pair_at w.pairs k).second ≡ p) ⊎ (place_of (pair_at w.pairs k).second ≡ p → ⊥) →
        IsWatched (clause_in clauses k) (pair_at w.pairs k) (take (done + 1) fs) fs ⊎ IsAhead p 0 k (pair_at w.pairs k) w.lists
    by_first (inl e) other = inr (record { on = inl e; stands = rw (← e) (listed k lt).first_listed })
    by_first (inr n) (inl e) = inr (record { on = inr e; stands = rw (← e) (listed k lt).second_listed })
    by_first (inr n) (inr m) = inl (record {
      first = λ e. (watched k lt).first (more-front fs done (pair_at w.pairs k).first h e n);
      second = λ e. (watched k lt).second (more-front fs done (pair_at w.pairs k).second h e m);
      two = (watched k lt).two;
    })

pub Touches-end :
    (clauses : List (List Literal)) (w : Watching) (p at : ℕ) (front falses : List Literal) → length (list_at w.lists p) ≤ at →
    Touches clauses w p at front falses → AreWatched clauses w.pairs front falses
Touches-end clauses w p at front falses le touches k lt = by_case (touches k lt)
  where
    by_case : IsWatched (clause_in clauses k) (pair_at w.pairs k) front falses ⊎ IsAhead p at k (pair_at w.pairs k) w.lists → IsWatched (clause_in clauses k) (pair_at w.pairs k) front falses
    by_case (inl a) = a
    by_case (inr a) = absurd (let s = a.stands in let low = s.low in let inside = s.inside in omega arith)

-- a clause was looked at
pub Touches-look :
    (clauses : List (List Literal)) (w v : Watching) (p at : ℕ) (front fs gs : List Literal) → Within fs gs → Within front gs → Rewatches clauses gs w v →
    list_at v.lists p ≡ list_at w.lists p → Touches clauses w p at front fs → Touches clauses v p at front gs
Touches-look clauses w v p at front fs gs grows within r same touches k lt = by_pair (r.pairs k lt)
  where
    before : k < length w.pairs
    before = rw (← r.same_length) lt

    by_case :
        pair_at v.pairs k ≡ pair_at w.pairs k →
        IsWatched (clause_in clauses k) (pair_at w.pairs k) front fs ⊎ IsAhead p at k (pair_at w.pairs k) w.lists →
        IsWatched (clause_in clauses k) (pair_at v.pairs k) front gs ⊎ IsAhead p at k (pair_at v.pairs k) v.lists
    by_case e (inl a) = inl (rw e (IsWatched-grow (clause_in clauses k) front fs gs (pair_at w.pairs k) grows a))
    by_case e (inr a) = inr (record { on = rw e a.on; stands = rw same a.stands })

    by_pair :
        (pair_at v.pairs k ≡ pair_at w.pairs k) ⊎ AreOpen gs (clause_in clauses k) (pair_at v.pairs k) →
        IsWatched (clause_in clauses k) (pair_at v.pairs k) front gs ⊎ IsAhead p at k (pair_at v.pairs k) v.lists
    by_pair (inl e) = by_case e (touches k before)
    by_pair (inr o) = inl (IsWatched-open (clause_in clauses k) front gs (pair_at v.pairs k) (AreOpen-fewer front gs (clause_in clauses k) (pair_at v.pairs k) within o))

-- it has a true literal, and stays in the list
pub Touches-kept :
    (clauses : List (List Literal)) (w : Watching) (p at clause : ℕ) (front fs : List Literal) → clause ≡ get_or (list_at w.lists p) at 0 →
    is_satisfied fs (clause_in clauses clause) ≡ true → Touches clauses w p at front fs → Touches clauses w p (at + 1) front fs
Touches-kept clauses w p at clause front fs here satisfied touches k lt = by_case (touches k lt)
  where
    by_place :
        (place_of (pair_at w.pairs k).first ≡ p) ⊎ (place_of (pair_at w.pairs k).second ≡ p) → (s : StandsFrom at k (list_at w.lists p)) → (s.at ≡ at) ⊎ (s.at ≡ at → ⊥) →
        IsWatched (clause_in clauses k) (pair_at w.pairs k) front fs ⊎ IsAhead p (at + 1) k (pair_at w.pairs k) w.lists
    by_place on s (inl e) =
        let same : clause ≡ k = here ∙ ap (λ i. get_or (list_at w.lists p) i 0) (sym e) ∙ s.here in
        inl (IsWatched-satisfied (clause_in clauses k) front fs (pair_at w.pairs k) (rw (← same) satisfied))
    by_place on s (inr n) =
        let low = s.low in
        inr (record { on = on; stands = record { at = s.at; low = omega (arith, n); inside = s.inside; here = s.here } })

    by_case :
        IsWatched (clause_in clauses k) (pair_at w.pairs k) front fs ⊎ IsAhead p at k (pair_at w.pairs k) w.lists →
        IsWatched (clause_in clauses k) (pair_at w.pairs k) front fs ⊎ IsAhead p (at + 1) k (pair_at w.pairs k) w.lists
    by_case (inl a) = inl a
    by_case (inr a) = by_place a.on a.stands (cases_eq a.stands.at at)

off-on : (p : ℕ) (pair : Pair) → IsOff p pair → (place_of pair.first ≡ p) ⊎ (place_of pair.second ≡ p) → ⊥
off-on p pair off (inl e) = off.first e
off-on p pair off (inr e) = off.second e

-- it doesn't watch the literal, and is taken out of the list
pub Touches-gone :
    (clauses : List (List Literal)) (w : Watching) (p at clause : ℕ) (front fs : List Literal) → p < length w.lists → at < length (list_at w.lists p) →
    clause ≡ get_or (list_at w.lists p) at 0 → (clause < length w.pairs → IsOff p (pair_at w.pairs clause)) → Touches clauses w p at front fs →
    Touches clauses (record { lists = unlisted w.lists p at; pairs = w.pairs }) p at front fs
Touches-gone clauses w p at clause front fs within there here off touches k lt = by_case (touches k lt)
  where
    other : (place_of (pair_at w.pairs k).first ≡ p) ⊎ (place_of (pair_at w.pairs k).second ≡ p) → k ≢ get_or (list_at w.lists p) at 0
    other on e =
        let same : clause ≡ k = here ∙ sym e in
        let inside : clause < length w.pairs = rw same lt in
        let is_off : IsOff p (pair_at w.pairs k) = rw same at (off inside) in
        off-on p (pair_at w.pairs k) is_off on

    by_case :
        IsWatched (clause_in clauses k) (pair_at w.pairs k) front fs ⊎ IsAhead p at k (pair_at w.pairs k) w.lists →
        IsWatched (clause_in clauses k) (pair_at w.pairs k) front fs ⊎ IsAhead p at k (pair_at w.pairs k) (unlisted w.lists p at)
    by_case (inl a) = inl a
    by_case (inr a) = inr (record {
      on = a.on;
      stands = rw (list_at-unlisted w.lists p at within) (Stands-removed (list_at w.lists p) at at k there (omega arith) (other a.on) a.stands);
    })

pub AreListed-gone :
    (clauses : List (List Literal)) (w : Watching) (p at clause : ℕ) → p < length w.lists → at < length (list_at w.lists p) →
    clause ≡ get_or (list_at w.lists p) at 0 → (clause < length w.pairs → IsOff p (pair_at w.pairs clause)) → AreListed clauses w →
    AreListed clauses (record { lists = unlisted w.lists p at; pairs = w.pairs })
AreListed-gone clauses w p at clause within there here off listed k lt = record {
  first_in = (listed k lt).first_in;
  second_in = (listed k lt).second_in;
  first_listed = Stands-unlisted w.lists p at (place_of (pair_at w.pairs k).first) k within there (λ e. other (inl e)) (listed k lt).first_listed;
  second_listed = Stands-unlisted w.lists p at (place_of (pair_at w.pairs k).second) k within there (λ e. other (inr e)) (listed k lt).second_listed;
}
  where
    other : (place_of (pair_at w.pairs k).first ≡ p) ⊎ (place_of (pair_at w.pairs k).second ≡ p) → k ≢ get_or (list_at w.lists p) at 0
    other on e =
        let same : clause ≡ k = here ∙ sym e in
        let inside : clause < length w.pairs = rw same lt in
        let is_off : IsOff p (pair_at w.pairs k) = rw same at (off inside) in
        off-on p (pair_at w.pairs k) is_off on

pub Rewatches-gone :
    (clauses : List (List Literal)) (fs : List Literal) (w : Watching) (p at clause : ℕ) → p < length w.lists → at < length (list_at w.lists p) →
    clause ≡ get_or (list_at w.lists p) at 0 → (clause < length w.pairs → IsOff p (pair_at w.pairs clause)) →
    Rewatches clauses fs w (record { lists = unlisted w.lists p at; pairs = w.pairs })
Rewatches-gone clauses fs w p at clause within there here off = record {
  same_length = refl;
  same_places = length-set w.lists p (swap_remove (list_at w.lists p) at 0);
  pairs = λ k h. inl refl;
  listed = λ l. AreListed-gone clauses w p at clause within there here off l;
}
