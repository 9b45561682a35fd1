-- How clauses come to be watched, and how their watched literals are exchanged.
use Rattle.std.proofs.Common.{◌≡◌, ℕ, ◌+◌, ◌*◌, ◌<◌, ◌≤◌, true, false, ◌⊎◌, inl, inr, List, [], ◌∷◌, ◌++◌, length, get_or, set, refl, sym, ap, ◌∙◌, arith, length-set}
use Rattle.std.specs.Prelude.{All}
use Rattle.std.proofs.lemmas.Bool.{cases_lt}
use Rattle.std.proofs.lemmas.List.{length_push, get_or_at, get_or_append_left}
use Rattle.cnf_core.specs.Literal.{Literal, HaveVarsUpTo}
use Rattle.cnf_core.specs.Lrat.{is_false}
use Rattle.sat_core.specs.Assigned.{no_literal, place_of}
use Rattle.sat_core.specs.Closing.{Within}
use Rattle.sat_core.specs.Trailed.{clause_in, is_satisfied}
use Rattle.sat_core.specs.Watching.{Watching, StandsFrom, AreOpen, IsWatched, AreWatched, IsListed, AreListed, IsOneOf, Rewatches, IsEntered, AreReady, ends_of, no_pair, pair_at, list_at, listed}
use Rattle.sat_core.specs.declared.watches.Pair.{Pair}
use Rattle.sat_core.proofs.Marks.{place-within}
use Rattle.sat_core.proofs.Models.{place-of}
use Rattle.sat_core.proofs.WatchLists.{place-apart, Stands-listed, Stands-new, IsListed-listed, list_at-other}
use Rattle.sat_core.proofs.WatchPairs.{AreOpen-fewer, IsWatched-open, IsWatched-satisfied, IsWatched-grow, AreWatched-grow, Rewatches-set}

-- the variables of a clause's literals
pub variable-in : (vars : ℕ) (c : List Literal) (l : Literal) → All (λ m. m.variable ≤ vars) c → is_false c l ≡ true → l.variable ≤ vars
variable-in vars c l h e =
    let p = place-of c l e in
    let here : (get_or c p.0 no_literal).variable ≤ vars = h p.0 no_literal p.1 in
    rw p.2 at here

pub place-in :
    (vars places : ℕ) (clauses : List (List Literal)) (k : ℕ) (l : Literal) → HaveVarsUpTo vars clauses → places ≡ 2 * vars + 2 → k < length clauses →
    is_false (clause_in clauses k) l ≡ true → place_of l < places
place-in vars places clauses k l h same lt e =
    rw same (place-within l vars (variable-in vars (clause_in clauses k) l (h k [] lt) e))

pub Turn-first :
    (clauses : List (List Literal)) (fs : List Literal) (w : Watching) (clause : ℕ) (other : Literal) (pair : Pair) → place_of pair.second < length w.lists →
    clause < length w.pairs → AreOpen fs (clause_in clauses clause) pair → pair.first ≡ other → StandsFrom 0 clause (list_at w.lists (place_of other)) →
    Rewatches clauses fs w (record { lists = listed w.lists (place_of pair.second) clause; pairs = set w.pairs clause pair })
Turn-first clauses fs w clause other pair within h o same stands =
    let p : ℕ = place_of pair.second in
    let there : StandsFrom 0 clause (list_at w.lists (place_of pair.first)) = rw same stands in
    Rewatches-set
    clauses
    fs
    w
    (listed w.lists (place_of pair.second) clause)
    clause
    pair
    h
    o
    (length-set w.lists (place_of pair.second) (list_at w.lists (place_of pair.second) ++ clause ∷ []))
    (λ q k s. Stands-listed w.lists (place_of pair.second) clause q k within s)
    (Stands-listed w.lists (place_of pair.second) clause (place_of pair.first) clause within there)
    (Stands-new w.lists (place_of pair.second) clause within)

pub Turn-second :
    (clauses : List (List Literal)) (fs : List Literal) (w : Watching) (clause : ℕ) (pair : Pair) → place_of pair.first < length w.lists →
    clause < length w.pairs → AreOpen fs (clause_in clauses clause) pair → StandsFrom 0 clause (list_at w.lists (place_of pair.second)) →
    Rewatches clauses fs w (record { lists = listed w.lists (place_of pair.first) clause; pairs = set w.pairs clause pair })
Turn-second clauses fs w clause pair within h o stands =
    Rewatches-set
    clauses
    fs
    w
    (listed w.lists (place_of pair.first) clause)
    clause
    pair
    h
    o
    (length-set w.lists (place_of pair.first) (list_at w.lists (place_of pair.first) ++ clause ∷ []))
    (λ q k s. Stands-listed w.lists (place_of pair.first) clause q k within s)
    (Stands-new w.lists (place_of pair.first) clause within)
    (Stands-listed w.lists (place_of pair.first) clause (place_of pair.second) clause within stands)

length-listed : (lists : List (List ℕ)) (p clause : ℕ) → length (listed lists p clause) ≡ length lists
length-listed lists p clause = length-set lists p (list_at lists p ++ clause ∷ [])

pub Turn-both :
    (clauses : List (List Literal)) (fs : List Literal) (w : Watching) (clause : ℕ) (pair : Pair) → place_of pair.first < length w.lists →
    place_of pair.second < length w.lists → clause < length w.pairs → AreOpen fs (clause_in clauses clause) pair →
    Rewatches clauses fs w (record { lists = listed (listed w.lists (place_of pair.first) clause) (place_of pair.second) clause; pairs = set w.pairs clause pair })
Turn-both clauses fs w clause pair first second h o =
    let once : List (List ℕ) = listed w.lists (place_of pair.first) clause in
    let within : place_of pair.second < length (listed w.lists (place_of pair.first) clause) = rw (length-listed w.lists (place_of pair.first) clause) second in
    Rewatches-set
    clauses
    fs
    w
    (listed (listed w.lists (place_of pair.first) clause) (place_of pair.second) clause)
    clause
    pair
    h
    o
    (length-listed (listed w.lists (place_of pair.first) clause) (place_of pair.second) clause ∙ length-listed w.lists (place_of pair.first) clause)
    (λ q k s. Stands-listed (listed w.lists (place_of pair.first) clause) (place_of pair.second) clause q k within (Stands-listed w.lists (place_of pair.first) clause q k first s))
    (Stands-listed (listed w.lists (place_of pair.first) clause) (place_of pair.second) clause (place_of pair.first) clause within (Stands-new w.lists (place_of pair.first) clause first))
    (Stands-new (listed w.lists (place_of pair.first) clause) (place_of pair.second) clause within)

-- the list of a false literal stays
pub same-list :
    (lists : List (List ℕ)) (fs : List Literal) (l literal : Literal) (clause : ℕ) → is_false fs l ≡ false → is_false fs literal ≡ true →
    list_at (listed lists (place_of l) clause) (place_of literal) ≡ list_at lists (place_of literal)
same-list lists fs l literal clause e f =
    list_at-other lists (place_of l) clause (place_of literal) (λ s. place-apart fs l literal e f (sym s))

-- one of the watched literals stands in the clause, and its list has the clause
pub one-in : (clause : List Literal) (pair : Pair) (lists : List (List ℕ)) (k : ℕ) (l : Literal) → IsListed clause pair lists k → IsOneOf pair l → is_false clause l ≡ true
one-in clause pair lists k l h (inl e) = ap (is_false clause) (sym e) ∙ h.first_in
one-in clause pair lists k l h (inr e) = ap (is_false clause) (sym e) ∙ h.second_in

pub one-listed : (clause : List Literal) (pair : Pair) (lists : List (List ℕ)) (k : ℕ) (l : Literal) → IsListed clause pair lists k → IsOneOf pair l → StandsFrom 0 k (list_at lists (place_of l))
one-listed clause pair lists k l h (inl e) = rw (← e) h.first_listed
one-listed clause pair lists k l h (inr e) = rw (← e) h.second_listed

pub IsEntered-same :
    (clauses : List (List Literal)) (falses more : List Literal) (w : Watching) → Within falses more → length w.pairs ≤ length clauses → IsEntered clauses falses more w w
IsEntered-same clauses falses more w within le = record {
  longer = omega arith;
  within = le;
  listed = λ l. l;
  watched = λ front inside a. AreWatched-grow clauses w.pairs front falses more within a;
  settled = λ front inside ready a. a;
}

pub IsEntered-add :
    (clauses : List (List Literal)) (falses more : List Literal) (w : Watching) (pair : Pair) → Within falses more → length w.pairs < length clauses →
    place_of pair.first < length w.lists → place_of pair.second < length w.lists →
    is_false (clause_in clauses (length w.pairs)) pair.first ≡ true → is_false (clause_in clauses (length w.pairs)) pair.second ≡ true →
    AreOpen more (clause_in clauses (length w.pairs)) pair ⊎ ((is_satisfied more (clause_in clauses (length w.pairs)) ≡ true) × (pair ≡ ends_of (clause_in clauses (length w.pairs)))) →
    IsEntered clauses falses more w (record {
      lists = listed (listed w.lists (place_of pair.first) (length w.pairs)) (place_of pair.second) (length w.pairs);
      pairs = w.pairs ++ pair ∷ [];
    })
IsEntered-add clauses falses more w pair within lt first second first_in second_in kind = record {
  longer = omega (arith, length_push w.pairs pair);
  within = omega (arith, length_push w.pairs pair);
  listed = λ l k h. by_listed k l (cases_lt k (length w.pairs)) h;
  watched = λ front inside a k h. by_watched front inside k a (cases_lt k (length w.pairs)) h;
  settled = λ front inside ready a k h. by_settled front inside k ready a (cases_lt k (length w.pairs)) h;
}
  where
    once : List (List ℕ)
    once = listed w.lists (place_of pair.first) (length w.pairs)

    within_once : place_of pair.second < length once
    within_once = rw (length-listed w.lists (place_of pair.first) (length w.pairs)) second

    both : List (List ℕ)
    both = listed once (place_of pair.second) (length w.pairs)

    at_end : (k : ℕ) → length w.pairs ≤ k → k < length (w.pairs ++ pair ∷ []) → k ≡ length w.pairs
    at_end k le h = omega (arith, length_push w.pairs pair)

    here : pair_at (w.pairs ++ pair ∷ []) (length w.pairs) ≡ pair
    here = get_or_at w.pairs pair [] no_pair (length w.pairs) refl

    by_listed :
        (k : ℕ) → AreListed clauses w → (k < length w.pairs) ⊎ (length w.pairs ≤ k) → k < length (w.pairs ++ pair ∷ []) →
        IsListed (clause_in clauses k) (pair_at (w.pairs ++ pair ∷ []) k) both k
    by_listed k l (inl le) h =
        rw
        (get_or_append_left w.pairs (pair ∷ []) no_pair k le)
        (IsListed-listed (clause_in clauses k) (pair_at w.pairs k) once (place_of pair.second) (length w.pairs) k within_once
        (IsListed-listed (clause_in clauses k) (pair_at w.pairs k) w.lists (place_of pair.first) (length w.pairs) k first (l k le)))
    by_listed k l (inr le) h = rw (at_end k le h, here) (record {
      first_in = first_in;
      second_in = second_in;
      first_listed = Stands-listed once (place_of pair.second) (length w.pairs) (place_of pair.first) (length w.pairs) within_once (Stands-new w.lists (place_of pair.first) (length w.pairs) first);
      second_listed = Stands-new once (place_of pair.second) (length w.pairs) within_once;
    })

    new_watched : (front : List Literal) → Within front falses → IsWatched (clause_in clauses (length w.pairs)) pair front more
    new_watched front inside = elim kind [
      | inl o ↦ IsWatched-open (clause_in clauses (length w.pairs)) front more pair (AreOpen-fewer front more (clause_in clauses (length w.pairs)) pair (λ l e. within l (inside l e)) o)
      | inr s ↦ IsWatched-satisfied (clause_in clauses (length w.pairs)) front more pair s.0
    ]

    by_watched :
        (front : List Literal) → Within front falses → (k : ℕ) → AreWatched clauses w.pairs front falses →
        (k < length w.pairs) ⊎ (length w.pairs ≤ k) → k < length (w.pairs ++ pair ∷ []) →
        IsWatched (clause_in clauses k) (pair_at (w.pairs ++ pair ∷ []) k) front more
    by_watched front inside k a (inl le) h =
        rw (get_or_append_left w.pairs (pair ∷ []) no_pair k le) (IsWatched-grow (clause_in clauses k) front falses more (pair_at w.pairs k) within (a k le))
    by_watched front inside k a (inr le) h = rw (at_end k le h, here) (new_watched front inside)

    new_settled : (front : List Literal) → Within front falses → AreReady clauses (length w.pairs) front → IsWatched (clause_in clauses (length w.pairs)) pair front front
    new_settled front inside ready = elim kind [
      | inl o ↦ IsWatched-open (clause_in clauses (length w.pairs)) front front pair (AreOpen-fewer front more (clause_in clauses (length w.pairs)) pair (λ l e. within l (inside l e)) o)
      | inr s ↦ IsWatched-open (clause_in clauses (length w.pairs)) front front pair (rw s.1 (ready (length w.pairs) (omega arith) lt))
    ]

    by_settled :
        (front : List Literal) → Within front falses → (k : ℕ) → AreReady clauses (length w.pairs) front → AreWatched clauses w.pairs front front →
        (k < length w.pairs) ⊎ (length w.pairs ≤ k) → k < length (w.pairs ++ pair ∷ []) →
        IsWatched (clause_in clauses k) (pair_at (w.pairs ++ pair ∷ []) k) front front
    by_settled front inside k ready a (inl le) h = rw (get_or_append_left w.pairs (pair ∷ []) no_pair k le) (a k le)
    by_settled front inside k ready a (inr le) h = rw (at_end k le h, here) (new_settled front inside ready)

-- the same of watches that are equal to these
pub Added :
    (clauses : List (List Literal)) (falses more : List Literal) (w v : Watching) (at : ℕ) (pair : Pair) → at ≡ length w.pairs → Within falses more → at < length clauses →
    place_of pair.first < length w.lists → place_of pair.second < length w.lists →
    is_false (clause_in clauses at) pair.first ≡ true → is_false (clause_in clauses at) pair.second ≡ true →
    AreOpen more (clause_in clauses at) pair ⊎ ((is_satisfied more (clause_in clauses at) ≡ true) × (pair ≡ ends_of (clause_in clauses at))) →
    v.lists ≡ listed (listed w.lists (place_of pair.first) (length w.pairs)) (place_of pair.second) (length w.pairs) → v.pairs ≡ w.pairs ++ pair ∷ [] →
    IsEntered clauses falses more w v
Added clauses falses more w v at pair next within lt first second first_in second_in kind lists pairs =
    let is : record { lists = listed (listed w.lists (place_of pair.first) (length w.pairs)) (place_of pair.second) (length w.pairs); pairs = w.pairs ++ pair ∷ [] } ≡ v =
    ap (λ (ls : List (List ℕ)). record { lists = ls; pairs = w.pairs ++ pair ∷ [] }) (sym lists) ∙ ap (λ (ps : List Pair). record { lists = v.lists; pairs = ps }) (sym pairs) in
    rw is at (IsEntered-add
    clauses
    falses
    more
    w
    pair
    within
    (rw (← next) lt)
    first
    second
    (rw (← next) first_in)
    (rw (← next) second_in)
    (rw (← next) kind))

pub IsEntered-trans :
    (clauses : List (List Literal)) (falses more most : List Literal) (w v u : Watching) → Within falses more →
    IsEntered clauses falses more w v → IsEntered clauses more most v u → IsEntered clauses falses most w u
IsEntered-trans clauses falses more most w v u within p q = record {
  longer = (let a = p.longer in let b = q.longer in omega arith);
  within = q.within;
  listed = λ l. q.listed (p.listed l);
  watched = λ front inside a. q.watched front (λ l e. within l (inside l e)) (p.watched front inside a);
  settled = λ front inside ready a.
      q.settled front (λ l e. within l (inside l e)) (λ k le h. let longer = p.longer in ready k (omega arith) h) (p.settled front inside ready a);
}
