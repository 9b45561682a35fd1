-- What two watched literals of a clause say of it.
use Rattle.std.proofs.Common.{◌≡◌, ℕ, ◌+◌, ◌-◌, ◌<◌, ◌≤◌, Bool, true, false, cond, not, ◌||◌, ◌⊎◌, inl, inr, List, [], ◌∷◌, ◌++◌, length, get_or, set, take, drop, refl, sym, ap, ◌∙◌, arith, length-set, length-append, get_or-set_same, get_or-set_other}
use Rattle.std.specs.Prelude.{All}
use Rattle.std.proofs.lemmas.Bool.{cases_eq}
use Rattle.std.proofs.lemmas.List.{length-take, take-append-drop, drop_more, get_or_default, get_or-take}
use Rattle.std.proofs.lemmas.List.Elements.{filter-append}
use Rattle.cnf_core.specs.Literal.{Literal, negated, same_literal}
use Rattle.cnf_core.specs.Lrat.{is_false, open_lits, HasGoodVars}
use Rattle.sat_core.specs.Assigned.{no_literal, place_of}
use Rattle.sat_core.specs.Closing.{Within}
use Rattle.sat_core.specs.Trailed.{AreQuiet, IsQuiet, clause_in, is_satisfied}
use Rattle.sat_core.specs.Watching.{Watching, StandsFrom, IsPair, AreOpen, IsWatched, AreWatched, IsListed, AreListed, IsOff, Rewatches, ends_of, no_pair, pair_at, list_at}
use Rattle.sat_core.specs.declared.watches.Pair.{Pair}
use Rattle.sat_core.proofs.Fresh.{open_lits-in}
use Rattle.sat_core.proofs.Models.{consistent}
use Rattle.sat_core.proofs.Propagations.{open_lits-has}
use Rattle.sat_core.proofs.Quiet.{quiet-more}
use Rattle.sat_core.proofs.Sets.{same-is, same-refl, or-true, or-false, false-from, is_false-append}
use Rattle.sat_core.proofs.WatchLists.{place-apart}

-- a literal of the clause is true
pub satisfied-has : (fs c : List Literal) (l : Literal) → is_false c l ≡ true → is_false fs (negated l) ≡ true → is_satisfied fs c ≡ true
satisfied-has fs [] l e t = absurd cc
satisfied-has fs (x ∷ xs) l e t = by_head (same_literal l x) refl (satisfied-has fs xs l)
  where
    by_head : (s : Bool) → same_literal l x ≡ s → (is_false xs l ≡ true → is_false fs (negated l) ≡ true → is_satisfied fs xs ≡ true) → is_satisfied fs (x ∷ xs) ≡ true
    by_head true s ih = ap (λ b. b || is_satisfied fs xs) (ap (λ (m : Literal). is_false fs (negated m)) (sym (same-is l x s)) ∙ t)
    by_head false s ih = ap (λ b. is_false fs (negated x) || b) (ih (rw s at e) t) ∙ or-true (is_false fs (negated x))

-- which one
pub satisfied-which : (fs c : List Literal) → is_satisfied fs c ≡ true → (l : Literal) × (is_false c l ≡ true) × (is_false fs (negated l) ≡ true)
satisfied-which fs [] e = absurd cc
satisfied-which fs (x ∷ xs) e = by_head (is_false fs (negated x)) refl (satisfied-which fs xs)
  where
    by_head :
        (b : Bool) → is_false fs (negated x) ≡ b → (is_satisfied fs xs ≡ true → (l : Literal) × (is_false xs l ≡ true) × (is_false fs (negated l) ≡ true)) →
        (l : Literal) × (is_false (x ∷ xs) l ≡ true) × (is_false fs (negated l) ≡ true)
    by_head true t ih = (x, ap (λ b. b || is_false xs x) (same-refl x), t)
    by_head false t ih = let w = ih (rw t at e) in (w.0, ap (λ b. same_literal w.0 x || b) w.1 ∙ or-true (same_literal w.0 x), w.2)

pub satisfied-grow : (fs gs c : List Literal) → Within fs gs → is_satisfied fs c ≡ true → is_satisfied gs c ≡ true
satisfied-grow fs gs c within e = let w = satisfied-which fs c e in satisfied-has gs c w.0 w.1 (within (negated w.0) w.2)

pub satisfied-some : (fs c : List Literal) → is_satisfied fs c ≡ true → 0 < length c
satisfied-some fs [] e = absurd cc
satisfied-some fs (x ∷ xs) e = omega arith

-- a clause with a true literal has nothing to propagate
pub satisfied-quiet : (vars : ℕ) (fs c : List Literal) → HasGoodVars vars fs → is_satisfied fs c ≡ true → IsQuiet fs c
satisfied-quiet vars fs c good e = by_open (open_lits fs c) refl
  where
    w : (l : Literal) × (is_false c l ≡ true) × (is_false fs (negated l) ≡ true)
    w = satisfied-which fs c e

    not_false : is_false fs w.0 ≡ false
    not_false = false-from (is_false fs w.0) (λ f. consistent vars fs w.0 good f w.2)

    left : is_false (open_lits fs c) w.0 ≡ true
    left = open_lits-has fs c w.0 w.1 not_false

    by_open : (ls : List Literal) → open_lits fs c ≡ ls → AreQuiet fs (open_lits fs c)
    by_open [] o = let none : is_false [] w.0 ≡ true = rw o at left in absurd cc
    by_open (x ∷ []) o =
        let one : (same_literal w.0 x || false) ≡ true = rw o at left in
        let same : w.0 ≡ x = same-is w.0 x (sym (or-false (same_literal w.0 x)) ∙ one) in
        rw o (ap (λ (m : Literal). is_false fs (negated m)) (sym same) ∙ w.2)
    by_open (x ∷ y ∷ more) o = rw o tt

-- a literal of the clause that isn't false is left
open-some : (fs c : List Literal) (l : Literal) → is_false c l ≡ true → is_false fs l ≡ false → 1 ≤ length (open_lits fs c)
open-some fs c l e f = by_open (open_lits fs c) refl
  where
    by_open : (ls : List Literal) → open_lits fs c ≡ ls → 1 ≤ length (open_lits fs c)
    by_open [] o = let none : is_false [] l ≡ true = rw o at (open_lits-has fs c l e f) in absurd cc
    by_open (x ∷ more) o = rw o (omega arith)

-- a literal of a clause's front and one of its rest
pub IsPair-split : (xs ys c : List Literal) (pair : Pair) → xs ++ ys ≡ c → is_false xs pair.first ≡ true → is_false ys pair.second ≡ true → IsPair c pair
IsPair-split xs ys c pair whole e f = record {
  first_in = rw (← whole) (is_false-append xs ys pair.first ∙ ap (λ b. b || is_false ys pair.first) e);
  second_in = rw (← whole) (is_false-append xs ys pair.second ∙ ap (λ b. is_false xs pair.second || b) f ∙ or-true (is_false xs pair.second));
  two = λ fs p q.
      rw
      (← whole, filter-append (λ l. not (is_false fs l)) xs ys)
      (omega (arith, length-append (open_lits fs xs) (open_lits fs ys), open-some fs xs pair.first e p, open-some fs ys pair.second f q));
}

-- two different literals of a clause
pub IsPair-apart : (c : List Literal) (pair : Pair) → is_false c pair.first ≡ true → is_false c pair.second ≡ true → same_literal pair.first pair.second ≡ false → IsPair c pair
IsPair-apart c pair e f apart = record {
  first_in = e;
  second_in = f;
  two = λ fs p q. by_open fs (open_lits fs c) (open_lits-has fs c pair.first e p) (open_lits-has fs c pair.second f q);
}
  where
    by_open : (fs ls : List Literal) → is_false ls pair.first ≡ true → is_false ls pair.second ≡ true → 2 ≤ length ls
    by_open fs [] a b = absurd cc
    by_open fs (x ∷ []) a b =
        let one : pair.first ≡ x = same-is pair.first x (sym (or-false (same_literal pair.first x)) ∙ a) in
        let too : pair.second ≡ x = same-is pair.second x (sym (or-false (same_literal pair.second x)) ∙ b) in
        let same : same_literal pair.first pair.second ≡ true = ap (same_literal pair.first) (too ∙ sym one) ∙ same-refl pair.first in
        absurd cc
    by_open fs (x ∷ y ∷ more) a b = omega arith

-- a literal at a place
pub in-at : (xs : List Literal) (i : ℕ) → i < length xs → is_false xs (get_or xs i no_literal) ≡ true
in-at xs i h =
    let whole : take i xs ++ drop i xs ≡ xs = take-append-drop i xs in
    let first : drop i xs ≡ get_or xs i no_literal ∷ drop (i + 1) xs = drop_more xs i no_literal h in
    let l : Literal = get_or xs i no_literal in
    let here : is_false (drop i xs) (get_or xs i no_literal) ≡ true =
    ap (λ (ys : List Literal). is_false ys (get_or xs i no_literal)) first ∙ ap (λ b. b || is_false (drop (i + 1) xs) (get_or xs i no_literal)) (same-refl (get_or xs i no_literal)) in
    ap (λ (ys : List Literal). is_false ys (get_or xs i no_literal)) (sym whole)
    ∙ is_false-append (take i xs) (drop i xs) (get_or xs i no_literal)
    ∙ ap (λ b. is_false (take i xs) (get_or xs i no_literal) || b) here
    ∙ or-true (is_false (take i xs) (get_or xs i no_literal))

pub in-drop : (xs : List Literal) (i : ℕ) → i < length xs → is_false (drop i xs) (get_or xs i no_literal) ≡ true
in-drop xs i h =
    let first : drop i xs ≡ get_or xs i no_literal ∷ drop (i + 1) xs = drop_more xs i no_literal h in
    ap (λ (ys : List Literal). is_false ys (get_or xs i no_literal)) first ∙ ap (λ b. b || is_false (drop (i + 1) xs) (get_or xs i no_literal)) (same-refl (get_or xs i no_literal))

pub in-take : (xs : List Literal) (n i : ℕ) → i < n → i < length xs → is_false (take n xs) (get_or xs i no_literal) ≡ true
in-take xs n i h inside =
    let short : i < length (take n xs) = omega (arith, length-take n xs) in
    ap (is_false (take n xs)) (sym (get_or-take n xs i no_literal h)) ∙ in-at (take n xs) i short

-- the last literal that isn't false, and the one before it
pub AreOpen-scan :
    (fs c : List Literal) (i : ℕ) (pair : Pair) → i < length c → open_lits fs (drop (i + 1) c) ≡ pair.second ∷ [] → pair.first ≡ get_or c i no_literal →
    is_false fs pair.first ≡ false → AreOpen fs c pair
AreOpen-scan fs c i pair h one same e =
    let here : is_false (open_lits fs (drop (i + 1) c)) pair.second ≡ true = rw one (ap (λ b. b || false) (same-refl pair.second)) in
    let both = open_lits-in fs (drop (i + 1) c) pair.second here in
    record {
      two = IsPair-split (take (i + 1) c) (drop (i + 1) c) c pair (take-append-drop (i + 1) c) (rw same (in-take c (i + 1) i (omega arith) h)) both.0;
      first_open = e;
      second_open = both.1;
    }

-- one more literal before those that were looked at
pub open_lits-drop :
    (fs c : List Literal) (i : ℕ) (l : Literal) → i < length c → l ≡ get_or c i no_literal →
    open_lits fs (drop i c) ≡ cond (is_false fs l) (open_lits fs (drop (i + 1) c)) (l ∷ open_lits fs (drop (i + 1) c))
open_lits-drop fs c i l h same =
    ap (open_lits fs) (drop_more c i no_literal h ∙ ap (λ x. x ∷ drop (i + 1) c) (sym same)) ∙ by_test (is_false fs l) (open_lits fs (drop (i + 1) c))
  where
    by_test : (b : Bool) (ls : List Literal) → cond (not b) (l ∷ ls) ls ≡ cond b ls (l ∷ ls)
    by_test true ls = refl
    by_test false ls = refl

pub IsPair-ends : (c : List Literal) → 2 ≤ length c → IsPair c (ends_of c)
IsPair-ends c h =
    let n = length c in
    IsPair-split
    (take (length c - 1) c)
    (drop (length c - 1) c)
    c
    (ends_of c)
    (take-append-drop (length c - 1) c)
    (in-take c (length c - 1) (length c - 2) (omega arith) (omega arith))
    (in-drop c (length c - 1) (omega arith))

pub AreOpen-fewer : (front fs c : List Literal) (pair : Pair) → Within front fs → AreOpen fs c pair → AreOpen front c pair
AreOpen-fewer front fs c pair within o = record {
  two = o.two;
  first_open = false-from (is_false front pair.first) (λ e. absurd (cc (within pair.first e, o.first_open)));
  second_open = false-from (is_false front pair.second) (λ e. absurd (cc (within pair.second e, o.second_open)));
}

pub IsWatched-open : (c front fs : List Literal) (pair : Pair) → AreOpen front c pair → IsWatched c pair front fs
IsWatched-open c front fs pair o = record {
  first = λ e. absurd (cc (e, o.first_open));
  second = λ e. absurd (cc (e, o.second_open));
  two = inl o.two;
}

pub IsWatched-satisfied : (c front fs : List Literal) (pair : Pair) → is_satisfied fs c ≡ true → IsWatched c pair front fs
IsWatched-satisfied c front fs pair s = record { first = λ e. s; second = λ e. s; two = inr s }

pub IsWatched-grow : (c front fs gs : List Literal) (pair : Pair) → Within fs gs → IsWatched c pair front fs → IsWatched c pair front gs
IsWatched-grow c front fs gs pair within w = record {
  first = λ e. satisfied-grow fs gs c within (w.first e);
  second = λ e. satisfied-grow fs gs c within (w.second e);
  two = elim w.two [
    | inl p ↦ inl p
    | inr s ↦ inr (satisfied-grow fs gs c within s)
  ];
}

pub AreWatched-grow : (clauses : List (List Literal)) (pairs : List Pair) (front fs gs : List Literal) → Within fs gs → AreWatched clauses pairs front fs → AreWatched clauses pairs front gs
AreWatched-grow clauses pairs front fs gs within w k h = IsWatched-grow (clause_in clauses k) front fs gs (pair_at pairs k) within (w k h)

pub AreWatched-fewer : (clauses : List (List Literal)) (pairs : List Pair) (front more fs : List Literal) → Within front more → AreWatched clauses pairs more fs → AreWatched clauses pairs front fs
AreWatched-fewer clauses pairs front more fs within w k h = record {
  first = λ e. (w k h).first (within (pair_at pairs k).first e);
  second = λ e. (w k h).second (within (pair_at pairs k).second e);
  two = (w k h).two;
}

-- a watched clause has nothing to propagate
pub IsWatched-quiet : (vars : ℕ) (fs c : List Literal) (pair : Pair) → HasGoodVars vars fs → IsWatched c pair fs fs → IsQuiet fs c
IsWatched-quiet vars fs c pair good w = by_first (is_false fs pair.first) refl (is_false fs pair.second) refl w.two
  where
    by_first :
        (a : Bool) → is_false fs pair.first ≡ a → (b : Bool) → is_false fs pair.second ≡ b → IsPair c pair ⊎ (is_satisfied fs c ≡ true) → IsQuiet fs c
    by_first true e b f two = satisfied-quiet vars fs c good (w.first e)
    by_first false e true f two = satisfied-quiet vars fs c good (w.second f)
    by_first false e false f (inl p) = quiet-more fs (open_lits fs c) (p.two fs e f)
    by_first false e false f (inr s) = satisfied-quiet vars fs c good s

pub AreWatched-quiet :
    (vars : ℕ) (clauses : List (List Literal)) (pairs : List Pair) (fs : List Literal) → HasGoodVars vars fs → length pairs ≡ length clauses →
    AreWatched clauses pairs fs fs → All (IsQuiet fs) clauses
AreWatched-quiet vars clauses pairs fs good whole w k d h =
    rw (get_or_default clauses k d [] h) (IsWatched-quiet vars fs (clause_in clauses k) (pair_at pairs k) good (w k (rw whole h)))

-- watched literals that were exchanged
pub Rewatches-same : (clauses : List (List Literal)) (fs : List Literal) (w : Watching) → Rewatches clauses fs w w
Rewatches-same clauses fs w = record { same_length = refl; same_places = refl; pairs = λ k h. inl refl; listed = λ l. l }

pub Rewatches-trans :
    (clauses : List (List Literal)) (fs gs : List Literal) (w v u : Watching) → Within fs gs → Rewatches clauses fs w v → Rewatches clauses gs v u → Rewatches clauses fs w u
Rewatches-trans clauses fs gs w v u within p q = record {
  same_length = q.same_length ∙ p.same_length;
  same_places = q.same_places ∙ p.same_places;
  pairs = λ k h. by_last k h (q.pairs k h);
  listed = λ l. q.listed (p.listed l);
}
  where
    by_first :
        (k : ℕ) → pair_at u.pairs k ≡ pair_at v.pairs k → (pair_at v.pairs k ≡ pair_at w.pairs k) ⊎ AreOpen fs (clause_in clauses k) (pair_at v.pairs k) →
        (pair_at u.pairs k ≡ pair_at w.pairs k) ⊎ AreOpen fs (clause_in clauses k) (pair_at u.pairs k)
    by_first k e (inl same) = inl (e ∙ same)
    by_first k e (inr o) = inr (rw e o)

    by_last :
        (k : ℕ) → k < length u.pairs → (pair_at u.pairs k ≡ pair_at v.pairs k) ⊎ AreOpen gs (clause_in clauses k) (pair_at u.pairs k) →
        (pair_at u.pairs k ≡ pair_at w.pairs k) ⊎ AreOpen fs (clause_in clauses k) (pair_at u.pairs k)
    by_last k h (inl e) = by_first k e (p.pairs k (rw (← q.same_length) h))
    by_last k h (inr o) = inr (AreOpen-fewer fs gs (clause_in clauses k) (pair_at u.pairs k) within o)

-- the clause at `clause` has two other watched literals, which its lists have
pub Rewatches-set :
    (clauses : List (List Literal)) (fs : List Literal) (w : Watching) (lists : List (List ℕ)) (clause : ℕ) (pair : Pair) → clause < length w.pairs →
    AreOpen fs (clause_in clauses clause) pair → length lists ≡ length w.lists →
    ((q k : ℕ) → StandsFrom 0 k (list_at w.lists q) → StandsFrom 0 k (list_at lists q)) →
    StandsFrom 0 clause (list_at lists (place_of pair.first)) → StandsFrom 0 clause (list_at lists (place_of pair.second)) →
    Rewatches clauses fs w (record { lists = lists; pairs = set w.pairs clause pair })
Rewatches-set clauses fs w lists clause pair h o same more first second = record {
  same_length = length-set w.pairs clause pair;
  same_places = same;
  pairs = λ k le. by_place k (cases_eq k clause);
  listed = λ l k le. by_listed k (rw (← length-set w.pairs clause pair) le) l (cases_eq k clause);
}
  where
    here : pair_at (set w.pairs clause pair) clause ≡ pair
    here = get_or-set_same w.pairs clause pair no_pair h

    by_place :
        (k : ℕ) → (k ≡ clause) ⊎ (k ≡ clause → ⊥) →
        (pair_at (set w.pairs clause pair) k ≡ pair_at w.pairs k) ⊎ AreOpen fs (clause_in clauses k) (pair_at (set w.pairs clause pair) k)
    by_place k (inl e) = inr (rw (e, here) o)
    by_place k (inr n) = inl (get_or-set_other w.pairs clause k pair no_pair n)

    by_listed :
        (k : ℕ) → k < length w.pairs → AreListed clauses w → (k ≡ clause) ⊎ (k ≡ clause → ⊥) →
        IsListed (clause_in clauses k) (pair_at (set w.pairs clause pair) k) lists k
    by_listed k le l (inl e) = rw (e, here) (record { first_in = o.two.first_in; second_in = o.two.second_in; first_listed = first; second_listed = second })
    by_listed k le l (inr n) = rw (get_or-set_other w.pairs clause k pair no_pair n) (record {
      first_in = (l k le).first_in;
      second_in = (l k le).second_in;
      first_listed = more (place_of (pair_at w.pairs k).first) k (l k le).first_listed;
      second_listed = more (place_of (pair_at w.pairs k).second) k (l k le).second_listed;
    })

pub AreWatched-rewatch :
    (clauses : List (List Literal)) (fs front gs : List Literal) (w v : Watching) → Rewatches clauses fs w v → Within front fs →
    AreWatched clauses w.pairs front gs → AreWatched clauses v.pairs front gs
AreWatched-rewatch clauses fs front gs w v r within old k h = by_pair (r.pairs k h)
  where
    by_pair : (pair_at v.pairs k ≡ pair_at w.pairs k) ⊎ AreOpen fs (clause_in clauses k) (pair_at v.pairs k) → IsWatched (clause_in clauses k) (pair_at v.pairs k) front gs
    by_pair (inl e) = rw e (old k (rw (← r.same_length) h))
    by_pair (inr o) = IsWatched-open (clause_in clauses k) front gs (pair_at v.pairs k) (AreOpen-fewer front fs (clause_in clauses k) (pair_at v.pairs k) within o)

pub IsOff-open : (fs c : List Literal) (pair : Pair) (l : Literal) → AreOpen fs c pair → is_false fs l ≡ true → IsOff (place_of l) pair
IsOff-open fs c pair l o e = record {
  first = place-apart fs pair.first l o.first_open e;
  second = place-apart fs pair.second l o.second_open e;
}

-- the one literal that is left stands in the clause
pub unit-in : (fs c : List Literal) (l : Literal) → open_lits fs c ≡ l ∷ [] → is_false c l ≡ true
unit-in fs c l unit =
    let here : is_false (open_lits fs c) l ≡ true = rw unit (ap (λ b. b || false) (same-refl l)) in
    (open_lits-in fs c l here).0

pub ends-first : (c : List Literal) → 0 < length c → is_false c (ends_of c).first ≡ true
ends-first c h = in-at c (length c - 2) (omega arith)

pub ends-second : (c : List Literal) → 0 < length c → is_false c (ends_of c).second ≡ true
ends-second c h = in-at c (length c - 1) (omega arith)
