-- Literals that are left out of a learnt clause, since they follow from its others.
use Rattle.std.proofs.Common.{◌≡◌, ℕ, ◌+◌, ◌<◌, ◌≤◌, Bool, true, false, ◌&&◌, ◌||◌, ◌⊎◌, inl, inr, List, [], ◌∷◌, ◌++◌, Some, length, get_or, take, refl, sym, ◌∙◌, ap, subst, arith}
use Rattle.std.specs.Prelude.{All, filter}
use Rattle.std.proofs.lemmas.List.{take_more, take_all, length-take, get_or-take}
use Rattle.std.proofs.lemmas.List.Elements.{All-push}
use Rattle.cnf_core.specs.Literal.{Literal, negated, same_literal}
use Rattle.cnf_core.specs.Lrat.{Entry, clause_at, is_false, open_lits, HasGoodVars}
use Rattle.sat_core.specs.Assigned.{no_literal}
use Rattle.sat_core.specs.Closing.{Closing, Within, left_over}
use Rattle.sat_core.proofs.Closings.{Closing-more, Closing-drop}
use Rattle.sat_core.proofs.Models.{place-of, consistent}
use Rattle.sat_core.proofs.Sets.{same-is, or-true, or-false, or-assoc, false-from, is_false-append, is_false-push, is_false-filter}
use Rattle.sat_core.proofs.Settled.{Within-take}
use Rattle.sat_core.proofs.Trails.{good-take}
use Rattle.sat_core.proofs.WatchPairs.{in-take}

or-cases : (a b s k : Bool) → (((a || b) && s) || k) ≡ true → (((a && s) || k) ≡ true) ⊎ ((b ≡ true) × (s ≡ true))
or-cases true b s k e = inl e
or-cases false true true k e = inr (refl, refl)
or-cases false true false k e = inl e
or-cases false false s k e = inl e

is_false-left : (seen front kept : List Literal) (m : Literal) → is_false (left_over seen front kept) m ≡ ((is_false front m && is_false seen m) || is_false kept m)
is_false-left seen front kept m = is_false-append (filter (is_false seen) front) kept m ∙ ap (λ b. b || is_false kept m) (is_false-filter seen front m)

-- what is left over of a longer front
left-cases :
    (seen front kept : List Literal) (x m : Literal) → is_false (left_over seen (front ++ x ∷ []) kept) m ≡ true →
    (is_false (left_over seen front kept) m ≡ true) ⊎ ((same_literal m x ≡ true) × (is_false seen m ≡ true))
left-cases seen front kept x m e = by_case (or-cases (is_false front m) (same_literal m x) (is_false seen m) (is_false kept m) (sym longer ∙ e))
  where
    longer : is_false (left_over seen (front ++ x ∷ []) kept) m ≡ (((is_false front m || same_literal m x) && is_false seen m) || is_false kept m)
    longer = is_false-left seen (front ++ x ∷ []) kept m ∙ ap (λ b. (b && is_false seen m) || is_false kept m) (is_false-push front x m)

    by_case :
        (((is_false front m && is_false seen m) || is_false kept m) ≡ true) ⊎ ((same_literal m x ≡ true) × (is_false seen m ≡ true)) →
        (is_false (left_over seen front kept) m ≡ true) ⊎ ((same_literal m x ≡ true) × (is_false seen m ≡ true))
    by_case (inl h) = inl (is_false-left seen front kept m ∙ h)
    by_case (inr h) = inr h

-- all seen literals of the front are left over
pub Keep-start : (live : List Entry) (front seen : List Literal) (hints : List ℕ) → Closing live front seen hints → Closing live front (left_over seen front []) hints
Keep-start live front seen hints closing fs within all =
    closing fs within (λ l s f. all l (is_false-left seen front [] l ∙ or-false (is_false front l && is_false seen l) ∙ ap (λ b. b && is_false seen l) f ∙ s) f)

-- the literal isn't seen
pub Keep-unseen :
    (live : List Entry) (whole front seen kept : List Literal) (x : Literal) (hints : List ℕ) → is_false seen x ≡ false →
    Closing live whole (left_over seen (front ++ x ∷ []) kept) hints → Closing live whole (left_over seen front kept) hints
Keep-unseen live whole front seen kept x hints unseen closing =
    Closing-more live whole (left_over seen (front ++ x ∷ []) kept) (left_over seen front kept) hints (λ m e. by_case m (left-cases seen front kept x m e)) closing
  where
    by_case : (m : Literal) → (is_false (left_over seen front kept) m ≡ true) ⊎ ((same_literal m x ≡ true) × (is_false seen m ≡ true)) → is_false (left_over seen front kept) m ≡ true
    by_case m (inl h) = h
    by_case m (inr h) = absurd (cc (ap (is_false seen) (same-is m x h.0), h.1, unseen))

-- the literal is kept
pub Keep-kept :
    (live : List Entry) (whole front seen kept : List Literal) (x : Literal) (hints : List ℕ) →
    Closing live whole (left_over seen (front ++ x ∷ []) kept) hints → Closing live whole (left_over seen front (kept ++ x ∷ [])) hints
Keep-kept live whole front seen kept x hints closing =
    Closing-more live whole (left_over seen (front ++ x ∷ []) kept) (left_over seen front (kept ++ x ∷ [])) hints (λ m e. spread m ∙ by_case m (left-cases seen front kept x m e)) closing
  where
    spread : (m : Literal) → is_false (left_over seen front (kept ++ x ∷ [])) m ≡ (is_false (left_over seen front kept) m || same_literal m x)
    spread m =
        is_false-append (filter (is_false seen) front) (kept ++ x ∷ []) m
        ∙ ap (λ b. is_false (filter (is_false seen) front) m || b) (is_false-push kept x m)
        ∙ sym (or-assoc (is_false (filter (is_false seen) front) m) (is_false kept m) (same_literal m x))
        ∙ ap (λ b. b || same_literal m x) (sym (is_false-append (filter (is_false seen) front) kept m))

    by_case :
        (m : Literal) → (is_false (left_over seen front kept) m ≡ true) ⊎ ((same_literal m x ≡ true) × (is_false seen m ≡ true)) →
        (is_false (left_over seen front kept) m || same_literal m x) ≡ true
    by_case m (inl h) = ap (λ b. b || same_literal m x) h
    by_case m (inr h) = ap (λ b. is_false (left_over seen front kept) m || b) h.0 ∙ or-true (is_false (left_over seen front kept) m)

-- a literal of the front has another variable than the one after it
apart-at :
    (vars : ℕ) (falses : List Literal) (at : ℕ) (m : Literal) → HasGoodVars vars falses → at < length falses → is_false (take at falses) m ≡ true →
    m.variable ≡ (get_or falses at no_literal).variable → ⊥
apart-at vars falses at m good inside e same =
    let q = place-of (take at falses) m e in
    let lt : q.0 < at = (let h = q.1 in omega (arith, length-take at falses)) in
    let there : get_or falses q.0 no_literal ≡ m = sym (get_or-take at falses q.0 no_literal lt) ∙ q.2 in
    good.1 q.0 at no_literal lt inside (ap (λ (l : Literal). l.variable) there ∙ same)

-- the literals of the clause are seen, but for those of the variable
abbrev pub Covered : List Literal → List Literal → ℕ → Type 0
Covered seen clause variable = All (λ m. (is_false seen m ≡ true) ⊎ (m.variable ≡ variable)) clause

pub Covered-more :
    (seen clause : List Literal) (variable i : ℕ) (m : Literal) → i < length clause → m ≡ get_or clause i m →
    (is_false seen m ≡ true) ⊎ (m.variable ≡ variable) → Covered seen (take i clause) variable → Covered seen (take (i + 1) clause) variable
Covered-more seen clause variable i m h item here before =
    let P : Literal → Type 0 = λ l. (is_false seen l ≡ true) ⊎ (l.variable ≡ variable) in
    rw (take_more clause i m h) (All-push P (take i clause) (get_or clause i m) before (subst P item here))

pub Covered-all : (seen clause : List Literal) (variable i : ℕ) → length clause ≤ i → Covered seen (take i clause) variable → Covered seen clause variable
Covered-all seen clause variable i h before = rw (take_all i clause h) at before

-- the literal follows from the others
pub Keep-dropped :
    (vars : ℕ) (live : List Entry) (falses seen kept clause : List Literal) (at to : ℕ) (l : Literal) (id : ℕ) (hints : List ℕ) →
    HasGoodVars vars falses → at < to → at < length falses → get_or falses at no_literal ≡ negated l →
    clause_at live id ≡ Some clause → open_lits (take at falses) clause ≡ l ∷ [] → Covered seen clause (get_or falses at no_literal).variable →
    Closing live (take to falses) (left_over seen (take (at + 1) falses) kept) hints → Closing live (take to falses) (left_over seen (take at falses) kept) (id ∷ hints)
Keep-dropped vars live falses seen kept clause at to l id hints good lt inside same there unit covered closing =
    Closing-drop
    live
    (take to falses)
    (take at falses)
    (left_over seen (take at falses ++ x ∷ []) kept)
    (left_over seen (take at falses) kept)
    clause
    x
    l
    id
    hints
    (rw (take_more falses at no_literal inside) at closing)
    same
    x_in
    (false-from (is_false (take to falses) l) (λ e. consistent vars (take to falses) l (good-take vars falses to good) e (ap (is_false (take to falses)) (sym same) ∙ x_in)))
    (Within-take falses (take at falses) at to (omega arith) refl)
    there
    unit
    in_rest
    (λ m s. by_case m (left-cases seen (take at falses) kept x m s))
  where
    x : Literal
    x = get_or falses at no_literal

    x_in : is_false (take to falses) (get_or falses at no_literal) ≡ true
    x_in = in-take falses to at lt inside

    in_rest : (m : Literal) → is_false clause m ≡ true → is_false (take at falses) m ≡ true → is_false (left_over seen (take at falses) kept) m ≡ true
    in_rest m e t = by_cover (rw p.2 at (covered p.0 no_literal p.1))
      where
        p : (k : ℕ) × (k < length clause) × (get_or clause k no_literal ≡ m)
        p = place-of clause m e

        by_cover : (is_false seen m ≡ true) ⊎ (m.variable ≡ (get_or falses at no_literal).variable) → is_false (left_over seen (take at falses) kept) m ≡ true
        by_cover (inl s) =
            is_false-left seen (take at falses) kept m
            ∙ ap (λ b. (b && is_false seen m) || is_false kept m) t
            ∙ ap (λ b. b || is_false kept m) s
        by_cover (inr v) = absurd (apart-at vars falses at m good inside t v)

    by_case :
        (m : Literal) → (is_false (left_over seen (take at falses) kept) m ≡ true) ⊎ ((same_literal m (get_or falses at no_literal) ≡ true) × (is_false seen m ≡ true)) →
        (is_false (left_over seen (take at falses) kept) m || same_literal m (get_or falses at no_literal)) ≡ true
    by_case m (inl h) = ap (λ b. b || same_literal m (get_or falses at no_literal)) h
    by_case m (inr h) = ap (λ b. is_false (left_over seen (take at falses) kept) m || b) h.0 ∙ or-true (is_false (left_over seen (take at falses) kept) m)

-- what is kept is seen
pub Within-push : (kept seen : List Literal) (x : Literal) → is_false seen x ≡ true → Within kept seen → Within (kept ++ x ∷ []) seen
Within-push kept seen x s within m e = by_same (same_literal m x) refl
  where
    by_same : (b : Bool) → same_literal m x ≡ b → is_false seen m ≡ true
    by_same true t = ap (is_false seen) (same-is m x t) ∙ s
    by_same false t =
        let w : (is_false kept m || false) ≡ true = rw t at (sym (is_false-push kept x m) ∙ e) in
        within m (sym (or-false (is_false kept m)) ∙ w)

-- nothing is left to look at
pub Keep-end :
    (live : List Entry) (whole falses seen kept more : List Literal) (at : ℕ) (hints : List ℕ) → at ≤ 0 → Within kept more →
    Closing live whole (left_over seen (take at falses) kept) hints → Closing live whole more hints
Keep-end live whole falses seen kept more at hints le within closing =
    let zero_at : at ≡ 0 = omega arith in
    let none : left_over seen (take at falses) kept ≡ kept = rw zero_at refl in
    Closing-more live whole kept more hints within (rw none at closing)

-- fewer seen literals are no more of a list
pub length-fewer : (few many xs : List Literal) → Within few many → length (filter (is_false few) xs) ≤ length (filter (is_false many) xs)
length-fewer few many [] within = omega arith
length-fewer few many (x ∷ xs) within = by_head (is_false few x) refl (is_false many x) refl (length-fewer few many xs within)
  where
    by_head :
        (a : Bool) → is_false few x ≡ a → (b : Bool) → is_false many x ≡ b → length (filter (is_false few) xs) ≤ length (filter (is_false many) xs) →
        length (filter (is_false few) (x ∷ xs)) ≤ length (filter (is_false many) (x ∷ xs))
    by_head true s true t ih = rw (s, t) (omega arith)
    by_head true s false t ih = absurd (cc (within x s, t))
    by_head false s true t ih = rw (s, t) (omega arith)
    by_head false s false t ih = rw (s, t) ih
