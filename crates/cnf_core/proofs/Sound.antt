-- Lines that pass keep the live clauses true, so lines that refute leave no solution.
use Rattle.std.proofs.Common.{◌≡◌, ℕ, ◌+◌, Bool, true, false, not, ◌||◌, ◌==◌, List, [], ◌∷◌, ◌++◌, Option, Some, None, Ok, Err, refl, sym, ◌∙◌, ap}
use Rattle.std.specs.Prelude.{All}
use Rattle.std.proofs.lemmas.List.Elements.{All-head, All-tail, All-nil, All-cons}
use Rattle.cnf_core.specs.Literal.{Literal, negated, same_literal, is_true, clause_true, Solves, HaveNoSolution}
use Rattle.cnf_core.specs.Lrat.{Entry, State, clause_at, is_false, open_lits, make_true, read_open, read_hints, Rup, remove_clause, delete_all, is_empty, Passes, Closes, numbered, start, Refutes, IsPlain, Follows}
use Rattle.cnf_core.specs.declared.Ending.TheVariants.{Falsified, NoHint}
use Rattle.cnf_core.specs.declared.Line.{Line}
use Rattle.cnf_core.specs.declared.Line.TheVariants.{Add, Delete}
use Rattle.cnf_core.proofs.Truth.{is_true-negated, same_literal-true}

abbrev pub AllFalse : (ℕ → Bool) → List Literal → Type 0
AllFalse v [] = Unit {0}
AllFalse v (l ∷ ls) = (is_true v l ≡ false) × AllFalse v ls

abbrev pub AllTrue : (ℕ → Bool) → List Entry → Type 0
AllTrue v [] = Unit {0}
AllTrue v (e ∷ es) = (clause_true v e.lits ≡ true) × AllTrue v es

-- a literal among the false ones is false
false-from_is_false : (v : ℕ → Bool) (fs : List Literal) (l : Literal) → AllFalse v fs → is_false fs l ≡ true → is_true v l ≡ false
false-from_is_false v [] l h e = absurd cc
false-from_is_false v (m ∷ ms) l h e = by_head (false-from_is_false v ms l h.1) (same_literal l m) refl
  where
    by_head : (is_false ms l ≡ true → is_true v l ≡ false) → (b : Bool) → same_literal l m ≡ b → is_true v l ≡ false
    by_head ih true t = same_literal-true v l m t ∙ h.0
    by_head ih false t = ih (rw t at e)

-- a clause is as true as its open literals
clause_true-open : (v : ℕ → Bool) (fs : List Literal) → AllFalse v fs → (c : List Literal) → clause_true v c ≡ clause_true v (open_lits fs c)
clause_true-open v fs h [] = refl
clause_true-open v fs h (l ∷ c) = by_head (clause_true-open v fs h c) (is_false fs l) refl
  where
    by_head : clause_true v c ≡ clause_true v (open_lits fs c) → (b : Bool) → is_false fs l ≡ b → clause_true v (l ∷ c) ≡ clause_true v (open_lits fs (l ∷ c))
    by_head ih true t = rw (t, false-from_is_false v fs l h t) ih
    by_head ih false t = rw t (ap (λ b. is_true v l || b) ih)

clause_at-true : (v : ℕ → Bool) (live : List Entry) (id : ℕ) (c : List Literal) → AllTrue v live → clause_at live id ≡ Some c → clause_true v c ≡ true
clause_at-true v [] id c h e = absurd cc
clause_at-true v (x ∷ xs) id c h e = by_head (clause_at-true v xs id c h.1) (x.id == id) refl
  where
    by_head : (clause_at xs id ≡ Some c → clause_true v c ≡ true) → (b : Bool) → (x.id == id) ≡ b → clause_true v c ≡ true
    by_head ih true t =
        let f : Some x.lits ≡ Some c = rw t at e in
        let same : x.lits ≡ c = cc in
        rw (← same) h.0
    by_head ih false t = ih (rw t at e)

AllFalse-append : (v : ℕ → Bool) (fs : List Literal) (l : Literal) → AllFalse v fs → is_true v l ≡ false → AllFalse v (fs ++ l ∷ [])
AllFalse-append v [] l h e = (e, tt)
AllFalse-append v (m ∷ ms) l h e = (h.0, AllFalse-append v ms l h.1 e)

AllFalse-make_true : (v : ℕ → Bool) (fs : List Literal) (l : Literal) → AllFalse v fs → is_true v l ≡ true → AllFalse v (make_true fs l)
AllFalse-make_true v fs l h e = by_known (is_false fs (negated l)) refl
  where
    by_known : (b : Bool) → is_false fs (negated l) ≡ b → AllFalse v (make_true fs l)
    by_known true t = rw t h
    by_known false t = rw t (AllFalse-append v fs (negated l) h (is_true-negated v l ∙ ap not e))

-- where the live clauses are true and these literals false, no clause is falsified
not_falsified :
    (v : ℕ → Bool) (live : List Entry) → AllTrue v live → (hs : List ℕ) (fs : List Literal) →
    AllFalse v fs → read_hints live fs hs ≡ Falsified → ⊥
not_falsified v live all [] fs h e = cc
not_falsified v live all (id ∷ hs) fs h e = by_clause (not_falsified v live all hs) (clause_at live id) refl
  where
    or-false : (b : Bool) → (b || false) ≡ true → b ≡ true
    or-false true q = refl
    or-false false q = q

    by_open :
        ((fs : List Literal) → AllFalse v fs → read_hints live fs hs ≡ Falsified → ⊥) →
        (ls : List Literal) → clause_true v ls ≡ true →
        read_open id ls (λ l. read_hints live (make_true fs l) hs) ≡ Falsified → ⊥
    by_open ih [] t r = cc
    by_open ih (l ∷ []) t r = ih (make_true fs l) (AllFalse-make_true v fs l h (or-false _ t)) r
    by_open ih (l ∷ m ∷ more) t r = cc

    by_clause :
        ((fs : List Literal) → AllFalse v fs → read_hints live fs hs ≡ Falsified → ⊥) →
        (o : Option (List Literal)) → clause_at live id ≡ o → ⊥
    by_clause ih None t = let r : NoHint id ≡ Falsified = rw t at e in cc
    by_clause ih (Some c) t =
        by_open
        ih
        (open_lits fs c)
        (sym (clause_true-open v fs h c) ∙ clause_at-true v live id c all t)
        (rw t at e)

AllFalse-from_clause : (v : ℕ → Bool) (c : List Literal) → clause_true v c ≡ false → AllFalse v c
AllFalse-from_clause v [] e = tt
AllFalse-from_clause v (l ∷ c) e = by_head (AllFalse-from_clause v c) (is_true v l) refl
  where
    by_head : (clause_true v c ≡ false → AllFalse v c) → (b : Bool) → is_true v l ≡ b → AllFalse v (l ∷ c)
    by_head ih true t = let r : true ≡ false = rw t at e in absurd cc
    by_head ih false t = (t, ih (rw t at e))

-- an added clause is true where the live ones are
pub Rup-true :
    (v : ℕ → Bool) (vars : ℕ) (s : State) (id : ℕ) (lits : List Literal) (hints : List ℕ) →
    AllTrue v s.live → Rup vars s id lits hints → clause_true v lits ≡ true
Rup-true v vars s id lits hints all r = by_truth (clause_true v lits) refl
  where
    by_truth : (b : Bool) → clause_true v lits ≡ b → clause_true v lits ≡ true
    by_truth true t = t
    by_truth false t = absurd (not_falsified v s.live all hints lits (AllFalse-from_clause v lits t) r.closes)

AllTrue-append : (v : ℕ → Bool) (es : List Entry) (x : Entry) → AllTrue v es → clause_true v x.lits ≡ true → AllTrue v (es ++ x ∷ [])
AllTrue-append v [] x h e = (e, tt)
AllTrue-append v (y ∷ ys) x h e = (h.0, AllTrue-append v ys x h.1 e)

AllTrue-remove : (v : ℕ → Bool) (es : List Entry) (id : ℕ) → AllTrue v es → AllTrue v (remove_clause es id)
AllTrue-remove v [] id h = tt
AllTrue-remove v (x ∷ xs) id h = by_head (AllTrue-remove v xs id h.1) (x.id == id) refl
  where
    by_head : AllTrue v (remove_clause xs id) → (b : Bool) → (x.id == id) ≡ b → AllTrue v (remove_clause (x ∷ xs) id)
    by_head ih true t = rw t ih
    by_head ih false t = rw t (h.0, ih)

AllTrue-delete :
    (v : ℕ → Bool) (ids : List ℕ) (es left : List Entry) →
    AllTrue v es → delete_all es ids ≡ Ok left → AllTrue v left
AllTrue-delete v [] es left h e = let same : es ≡ left = cc in rw (← same) h
AllTrue-delete v (id ∷ ids) es left h e = by_clause (AllTrue-delete v ids (remove_clause es id) left (AllTrue-remove v es id h)) (clause_at es id) refl
  where
    by_clause :
        (delete_all (remove_clause es id) ids ≡ Ok left → AllTrue v left) →
        (o : Option (List Literal)) → clause_at es id ≡ o → AllTrue v left
    by_clause ih None t = let r : Err id ≡ Ok left = rw t at e in absurd cc
    by_clause ih (Some c) t = ih (rw t at e)

-- a line that passes keeps the live clauses true, and adds no empty clause
Passes-true :
    (v : ℕ → Bool) (vars : ℕ) (s : State) (line : Line) (t : State) → AllTrue v s.live → s.closed ≡ false → Passes vars s line t →
    AllTrue v t.live × (t.closed ≡ false)
Passes-true v vars s (Add id lits hints) t all before p =
    rw p.1 (AllTrue-append v s.live _ all holds, rw before (not_empty lits.items holds))
  where
    holds : clause_true v lits.items ≡ true
    holds = Rup-true v vars s id lits.items hints.items all p.0

    not_empty : (c : List Literal) → clause_true v c ≡ true → is_empty c ≡ false
    not_empty [] e = sym e
    not_empty (l ∷ ls) e = refl
Passes-true v vars s (Delete id ids) t all before p = rw p.2 (AllTrue-delete v ids.items s.live p.0 all p.1, before)

no_close : (v : ℕ → Bool) (vars : ℕ) (lines : List Line) (s : State) → AllTrue v s.live → s.closed ≡ false → Closes vars s lines → ⊥
no_close v vars [] s all before h = cc
no_close v vars (line ∷ lines) s all before h =
    let next = Passes-true v vars s line h.0 all before h.1 in
    no_close v vars lines h.0 next.0 next.1 h.2

pub AllTrue-numbered : (v : ℕ → Bool) (clauses : List (List Literal)) (n : ℕ) → Solves v clauses → AllTrue v (numbered n clauses)
AllTrue-numbered v [] n h = tt
AllTrue-numbered v (c ∷ cs) n h =
    (All-head (λ c. clause_true v c ≡ true) c cs h, AllTrue-numbered v cs (n + 1) (All-tail (λ c. clause_true v c ≡ true) c cs h))

All-from_true : (v : ℕ → Bool) (es : List Entry) → AllTrue v es → All (λ e. clause_true v e.lits ≡ true) es
All-from_true v [] h = All-nil (λ e. clause_true v e.lits ≡ true)
All-from_true v (e ∷ es) h = All-cons (λ e. clause_true v e.lits ≡ true) e es h.0 (All-from_true v es h.1)

true-from_All : (v : ℕ → Bool) (es : List Entry) → All (λ e. clause_true v e.lits ≡ true) es → AllTrue v es
true-from_All v [] h = tt
true-from_All v (e ∷ es) h =
    (All-head (λ e. clause_true v e.lits ≡ true) e es h, true-from_All v es (All-tail (λ e. clause_true v e.lits ≡ true) e es h))

pub Follows-start : (clauses : List (List Literal)) → Follows clauses (start clauses)
Follows-start clauses v solves = (All-from_true v (numbered 1 clauses) (AllTrue-numbered v clauses 1 solves), refl)

pub Follows-step :
    (clauses : List (List Literal)) (vars : ℕ) (s : State) (line : Line) (t : State) → Passes vars s line t → Follows clauses s → Follows clauses t
Follows-step clauses vars s line t p f v solves =
    let before = f v solves in
    let next = Passes-true v vars s line t (true-from_All v s.live before.0) before.1 p in
    (All-from_true v t.live next.0, next.1)

pub Follows-closed : (clauses : List (List Literal)) (s : State) → Follows clauses s → s.closed ≡ true → HaveNoSolution clauses
Follows-closed clauses s f e v solves = cc ((f v solves).1, e)

-- lines that refute clauses leave them no solution
pub sound : (vars : ℕ) (clauses : List (List Literal)) (lines : List Line) → Refutes vars clauses lines → HaveNoSolution clauses
sound vars clauses lines h v solves =
    no_close v vars lines (start clauses) (AllTrue-numbered v clauses 1 solves) refl h

-- and so do clauses that one line without literals refutes
pub plain_sound : (vars : ℕ) (clauses : List (List Literal)) → IsPlain vars clauses → HaveNoSolution clauses
plain_sound vars clauses p v solves =
    let holds : clause_true v [] ≡ true = Rup-true v vars (start clauses) p.0 [] p.1 (AllTrue-numbered v clauses 1 solves) p.2 in
    cc holds
