-- How propagation puts literals at the end of a trail.
use Rattle.std.proofs.Common.{◌≡◌, ℕ, ◌<◌, ◌≤◌, Bool, true, false, ◌||◌, inl, inr, List, [], ◌∷◌, ◌++◌, length, take, drop, Some, None, refl, sym, ap, ◌∙◌, arith}
use Rattle.std.proofs.lemmas.Bool.{cases_lt}
use Rattle.std.proofs.lemmas.List.{take-take, take-append-drop, get_or_append_left, get_or_at, length_push}
use Rattle.cnf_core.specs.Literal.{Literal, negated, same_literal}
use Rattle.cnf_core.specs.Lrat.{is_false, open_lits}
use Rattle.sat_core.specs.Closing.{Within}
use Rattle.sat_core.specs.Fresh.{AtDecisions}
use Rattle.sat_core.specs.Propagation.{Propagates}
use Rattle.sat_core.specs.Trailed.{Trailed, Good, Extends, clause_in, pushed}
use Rattle.sat_core.proofs.Sets.{same-is, or-true, is_false-append}
use Rattle.sat_core.proofs.Trails.{Good-push, Extends-same, Extends-push}

pub Extends-trans : (t u v : Trailed) → Extends t u → Extends u v → Extends t v
Extends-trans t u v x y =
    let le : length t.falses ≤ length u.falses = x.longer in
    let longer = y.longer in
    record {
      vars = y.vars ∙ x.vars;
      longer = omega arith;
      front = sym (take-take (length t.falses) (length u.falses) v.falses le) ∙ ap (take (length t.falses)) y.front ∙ x.front;
    }

pub Propagates-same : (clauses : List (List Literal)) (t : Trailed) → Good clauses t → Propagates clauses t t
Propagates-same clauses t good = record { good = good; extends = Extends-same t; decided = λ d h e. (h, e) }

pub Propagates-trans : (clauses : List (List Literal)) (t u v : Trailed) → Propagates clauses t u → Propagates clauses u v → Propagates clauses t v
Propagates-trans clauses t u v p q = record {
  good = q.good;
  extends = Extends-trans t u v p.extends q.extends;
  decided = λ d h e. let r = q.decided d h e in p.decided d r.0 r.1;
}

some_not_none : (k : ℕ) → Some k ≡ None → ⊥
some_not_none k e = cc

some_same : (k m : ℕ) → Some k ≡ Some m → k ≡ m
some_same k m e = cc

-- a literal is put at the end because of a clause that leaves only its negation
pub Propagates-push :
    (clauses : List (List Literal)) (t : Trailed) (l : Literal) (at : ℕ) → Good clauses t → at < length clauses → open_lits t.falses (clause_in clauses at) ≡ l ∷ [] →
    l.variable ≤ t.vars → 0 < l.variable → is_false t.falses (negated l) ≡ false → is_false t.falses (negated (negated l)) ≡ false →
    Propagates clauses t (pushed t (negated l) (Some at))
Propagates-push clauses t l at good there unit within positive apart apart_too = record {
  good = Good-push clauses t (negated l) (Some at) good within positive apart apart_too (λ k e.
      let same : at ≡ k = some_same at k e in
      rw (← same) (record { literal = l; there = there; unit = unit; negation = refl }));
  extends = Extends-push t t (negated l) (Some at) (Extends-same t);
  decided = λ d h e. elim (cases_lt d (length t.falses)) [
    | inl lt ↦ (lt, sym (get_or_append_left t.reasons (Some at ∷ []) None d (before d lt)) ∙ e)
    | inr le ↦ absurd (some_not_none at (sym (get_or_at t.reasons (Some at) [] None d (after d h le)) ∙ e))
  ];
}
  where
    before : (d : ℕ) → d < length t.falses → d < length t.reasons
    before d lt = rw good.same_length lt

    after : (d : ℕ) → d < length (t.falses ++ negated l ∷ []) → length t.falses ≤ d → length t.reasons ≡ d
    after d h le = omega (arith, good.same_length, length_push t.falses (negated l))

-- what holds before each decision still does
pub At-propagates :
    (P : List Literal → Type 0) (clauses : List (List Literal)) (t u : Trailed) (floor : ℕ) → Propagates clauses t u → AtDecisions P t floor → AtDecisions P u floor
At-propagates P clauses t u floor p at d low h e =
    let r = p.decided d h e in
    let inside : d < length t.falses = r.0 in
    let le : d ≤ length t.falses = omega arith in
    let front : take d u.falses ≡ take d t.falses = sym (take-take d (length t.falses) u.falses le) ∙ ap (take d) p.extends.front in
    rw front (at d low inside r.1)

-- a literal of a clause that isn't false is left of it
pub open_lits-has : (fs c : List Literal) (m : Literal) → is_false c m ≡ true → is_false fs m ≡ false → is_false (open_lits fs c) m ≡ true
open_lits-has fs [] m e f = absurd cc
open_lits-has fs (x ∷ xs) m e f = by_head (is_false fs x) refl (same_literal m x) refl (open_lits-has fs xs m)
  where
    by_head :
        (b : Bool) → is_false fs x ≡ b → (s : Bool) → same_literal m x ≡ s →
        (is_false xs m ≡ true → is_false fs m ≡ false → is_false (open_lits fs xs) m ≡ true) → is_false (open_lits fs (x ∷ xs)) m ≡ true
    by_head true t true s ih = absurd (cc (ap (is_false fs) (same-is m x s), t, f))
    by_head true t false s ih = rw t (ih (rw s at e) f)
    by_head false t true s ih = rw t (ap (λ b. b || is_false (open_lits fs xs) m) s)
    by_head false t false s ih = rw t (ap (λ b. same_literal m x || b) (ih (rw s at e) f) ∙ or-true (same_literal m x))

pub Within-front : (n : ℕ) (fs front : List Literal) → take n fs ≡ front → Within front fs
Within-front n fs front same l e =
    let whole : take n fs ++ drop n fs ≡ fs = take-append-drop n fs in
    let here : is_false (take n fs) l ≡ true = ap (λ (xs : List Literal). is_false xs l) same ∙ e in
    rw (← whole) (is_false-append (take n fs) (drop n fs) l ∙ ap (λ b. b || is_false (drop n fs) l) here)

pub Within-less : (m n : ℕ) (fs : List Literal) → m ≤ n → Within (take m fs) (take n fs)
Within-less m n fs h = Within-front m (take n fs) (take m fs) (take-take m n fs h)

pub Within-extends : (t u : Trailed) → Extends t u → Within t.falses u.falses
Within-extends t u x = Within-front (length t.falses) u.falses t.falses x.front

-- a longer trail begins with the same literals
pub front-extends : (t u : Trailed) (m : ℕ) (front : List Literal) → Extends t u → m ≤ length t.falses → take m t.falses ≡ front → take m u.falses ≡ front
front-extends t u m front x le e = sym (take-take m (length t.falses) u.falses le) ∙ ap (take m) x.front ∙ e
