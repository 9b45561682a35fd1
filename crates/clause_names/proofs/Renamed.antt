-- Lines that refute clauses go on doing so where each variable is replaced by another one of its own.
use Rattle.std.proofs.Common.{◌≡◌, ◌≢◌, ℕ, ◌+◌, ◌<◌, ◌≤◌, ◌==◌, Bool, true, false, List, [], ◌∷◌, map, length, get_or, Option, Some, None, Ok, Err, zero, suc, refl, sym, ◌∙◌, ap, arith}
use Rattle.std.specs.Prelude.{AllPairs}
use Rattle.std.proofs.lemmas.Bool.{eqb-true, eq-eqb, ne_eqb}
use Rattle.std.proofs.lemmas.List.{map-append, length-map}
use Rattle.std.proofs.lemmas.List.Elements.{All-map}
use Rattle.cnf_core.specs.Literal.{Literal, negated, clause_true, Solves, HaveNoSolution}
use Rattle.cnf_core.specs.Lrat.{Entry, State, clause_at, is_false, open_lits, make_true, read_open, read_hints, HasGoodVars, remove_clause, delete_all, is_empty, added, Passes, Closes, numbered, start, Refutes}
use Rattle.cnf_core.specs.declared.Line.{Line}
use Rattle.cnf_core.specs.declared.Line.TheVariants.{Add, Delete}
use Rattle.bit_system.specs.ProofLines.{ProofLine, addition, deletion, seen}

module _ (f : ℕ → ℕ) (one : (a b : ℕ) → f a ≡ f b → a ≡ b) where
  abbrev pub other : Literal → Literal
  other l = record { variable = f l.variable; positive = l.positive }

  abbrev pub other_clause : List Literal → List Literal
  other_clause c = map other c

  abbrev pub other_entry : Entry → Entry
  other_entry e = record { id = e.id; lits = other_clause e.lits }

  abbrev pub other_state : State → State
  other_state s = record { live = map other_entry s.live; last = s.last; closed = s.closed }

  abbrev pub other_line : ProofLine → ProofLine
  other_line (addition id lits hints) = addition id (other_clause lits) hints
  other_line (deletion id ids) = deletion id ids

  same_variable : (a b : ℕ) → (f a == f b) ≡ (a == b)
  same_variable a b = by (a == b) refl
    where
      by : (t : Bool) → (a == b) ≡ t → (f a == f b) ≡ (a == b)
      by true t = eq-eqb (f a) (f b) (ap f (eqb-true a b t)) ∙ sym t
      by false t = ne_eqb (f a) (f b) (λ h. let e : (a == b) ≡ true = eq-eqb a b (one a b h) in cc) ∙ sym t

  same_false : (fs : List Literal) (l : Literal) → is_false (map other fs) (other l) ≡ is_false fs l
  same_false [] l = refl
  same_false (m ∷ ms) l = rw (same_variable l.variable m.variable, same_false ms l) refl

  same_open : (fs c : List Literal) → open_lits (map other fs) (map other c) ≡ map other (open_lits fs c)
  same_open fs [] = refl
  same_open fs (l ∷ c) = by (same_open fs c) (is_false fs l) refl
    where
      by : open_lits (map other fs) (map other c) ≡ map other (open_lits fs c) → (b : Bool) → is_false fs l ≡ b →
          open_lits (map other fs) (map other (l ∷ c)) ≡ map other (open_lits fs (l ∷ c))
      by ih true t = rw (same_false fs l, t) ih
      by ih false t = rw (same_false fs l, t) (ap (λ (xs : List Literal). other l ∷ xs) ih)

  same_make : (fs : List Literal) (l : Literal) → make_true (map other fs) (other l) ≡ map other (make_true fs l)
  same_make fs l = by (is_false fs (negated l)) refl
    where
      by : (b : Bool) → is_false fs (negated l) ≡ b → make_true (map other fs) (other l) ≡ map other (make_true fs l)
      by true t = rw (same_false fs (negated l), t) refl
      by false t = rw (same_false fs (negated l), t) (sym (map-append other fs (negated l ∷ [])))

  abbrev other_if_any : Option (List Literal) → Option (List Literal)
  other_if_any None = None
  other_if_any (Some c) = Some (other_clause c)

  same_at : (es : List Entry) (id : ℕ) → clause_at (map other_entry es) id ≡ other_if_any (clause_at es id)
  same_at [] id = refl
  same_at (e ∷ es) id = by (same_at es id) (e.id == id) refl
    where
      by : clause_at (map other_entry es) id ≡ other_if_any (clause_at es id) → (b : Bool) → (e.id == id) ≡ b →
          clause_at (map other_entry (e ∷ es)) id ≡ other_if_any (clause_at (e ∷ es) id)
      by ih true t = rw t refl
      by ih false t = rw t ih

  same_read : (live : List Entry) (hs : List ℕ) (fs : List Literal) → read_hints (map other_entry live) (map other fs) hs ≡ read_hints live fs hs
  same_read live [] fs = refl
  same_read live (h ∷ hs) fs = by (same_read live hs) (clause_at live h) refl
    where
      by_open : ((gs : List Literal) → read_hints (map other_entry live) (map other gs) hs ≡ read_hints live gs hs) → (ls : List Literal) →
          read_open h (map other ls) (λ l. read_hints (map other_entry live) (make_true (map other fs) l) hs) ≡ read_open h ls (λ l. read_hints live (make_true fs l) hs)
      by_open ih [] = refl
      by_open ih (l ∷ []) = ap (λ (gs : List Literal). read_hints (map other_entry live) gs hs) (same_make fs l) ∙ ih (make_true fs l)
      by_open ih (l ∷ m ∷ more) = refl

      by : ((gs : List Literal) → read_hints (map other_entry live) (map other gs) hs ≡ read_hints live gs hs) → (o : Option (List Literal)) → clause_at live h ≡ o →
          read_hints (map other_entry live) (map other fs) (h ∷ hs) ≡ read_hints live fs (h ∷ hs)
      by ih None t = rw (same_at live h, t) refl
      by ih (Some c) t = rw (same_at live h, t, same_open fs c) (by_open ih (open_lits fs c))

  same_removed : (es : List Entry) (id : ℕ) → remove_clause (map other_entry es) id ≡ map other_entry (remove_clause es id)
  same_removed [] id = refl
  same_removed (e ∷ es) id = by (same_removed es id) (e.id == id) refl
    where
      by : remove_clause (map other_entry es) id ≡ map other_entry (remove_clause es id) → (b : Bool) → (e.id == id) ≡ b →
          remove_clause (map other_entry (e ∷ es)) id ≡ map other_entry (remove_clause (e ∷ es) id)
      by ih true t = rw t ih
      by ih false t = rw t (ap (λ (xs : List Entry). other_entry e ∷ xs) ih)

  same_deleted : (ids : List ℕ) (es left : List Entry) → delete_all es ids ≡ Ok left → delete_all (map other_entry es) ids ≡ Ok (map other_entry left)
  same_deleted [] es left e = let same : es ≡ left = cc in rw same refl
  same_deleted (id ∷ ids) es left e = by (same_deleted ids (remove_clause es id) left) (clause_at es id) refl
    where
      by : (delete_all (remove_clause es id) ids ≡ Ok left → delete_all (map other_entry (remove_clause es id)) ids ≡ Ok (map other_entry left)) →
          (o : Option (List Literal)) → clause_at es id ≡ o → delete_all (map other_entry es) (id ∷ ids) ≡ Ok (map other_entry left)
      by ih None t = let r : Err id ≡ Ok left = rw t at e in absurd cc
      by ih (Some c) t = rw (same_at es id, t, same_removed es id) (ih (rw t at e))

  same_empty : (c : List Literal) → is_empty (other_clause c) ≡ is_empty c
  same_empty [] = refl
  same_empty (l ∷ ls) = refl

  same_added : (s : State) (id : ℕ) (lits : List Literal) → added (other_state s) id (other_clause lits) ≡ other_state (added s id lits)
  same_added s id lits = rw (same_empty lits, map-append other_entry s.live (record { id = id; lits = lits } ∷ [])) refl

  module _ (most vars : ℕ) (bound : (n : ℕ) → n ≤ most → f n ≤ vars) where
    good_vars : (lits : List Literal) → HasGoodVars most lits → HasGoodVars vars (other_clause lits)
    good_vars lits h = (
      All-map (λ (l : Literal). l.variable ≤ vars) other lits (λ k d low. bound (get_or lits k d).variable (h.0 k d low)),
      pairs lits h.1,
    )
      where
        at : (ls : List Literal) (k : ℕ) (d e : Literal) → k < length ls → get_or (map other ls) k e ≡ other (get_or ls k d)
        at [] k d e low = absurd (omega arith)
        at (l ∷ ls) zero d e low = refl
        at (l ∷ ls) (suc k) d e low = at ls k d e (omega arith)

        pairs : (ls : List Literal) → AllPairs (λ (l m : Literal). l.variable ≢ m.variable) ls → AllPairs (λ (l m : Literal). l.variable ≢ m.variable) (map other ls)
        pairs ls p i j d lt low =
            let less : j < length ls = omega (arith, length-map ls other) in
            let first : i < length ls = omega arith in
            rw (at ls i d d first, at ls j d d less) (λ same. p i j d lt less (one _ _ same))

    passes : (s t : State) (line new : Line) → seen new ≡ other_line (seen line) → Passes most s line t → Passes vars (other_state s) new (other_state t)
    passes s t (Add id lits hints) (Add n ls hs) e p =
        let a : n ≡ id = cc in
        let b : ls.items ≡ other_clause lits.items = cc in
        let c : hs.items ≡ hints.items = cc in
        rw (a, b, c) (
          record {
            new_id = p.0.new_id;
            good_vars = good_vars lits.items p.0.good_vars;
            closes = same_read s.live hints.items lits.items ∙ p.0.closes;
          },
          ap other_state p.1 ∙ sym (same_added s id lits.items),
        )
    passes s t (Add id lits hints) (Delete n ids) e p = absurd cc
    passes s t (Delete id ids) (Add n ls hs) e p = absurd cc
    passes s t (Delete id ids) (Delete n is) e p =
        let c : is.items ≡ ids.items = cc in
        rw c (map other_entry p.0, same_deleted ids.items s.live p.0 p.1, ap other_state p.2)

    closes : (lines new : List Line) (s : State) → map seen new ≡ map other_line (map seen lines) → Closes most s lines → Closes vars (other_state s) new
    closes [] [] s e h = h
    closes [] (n ∷ ns) s e h = absurd cc
    closes (l ∷ ls) [] s e h = absurd cc
    closes (l ∷ ls) (n ∷ ns) s e h =
        let a : seen n ≡ other_line (seen l) = cc in
        let b : map seen ns ≡ map other_line (map seen ls) = cc in
        (other_state h.0, passes s h.0 l n a h.1, closes ls ns h.0 b h.2)

    same_numbered : (n : ℕ) (cs : List (List Literal)) → numbered n (map other_clause cs) ≡ map other_entry (numbered n cs)
    same_numbered n [] = refl
    same_numbered n (c ∷ cs) = ap (λ (es : List Entry). record { id = n; lits = other_clause c } ∷ es) (same_numbered (n + 1) cs)

    same_start : (cs : List (List Literal)) → start (map other_clause cs) ≡ other_state (start cs)
    same_start cs = rw (same_numbered 1 cs, length-map cs other_clause) refl

    pub refutes : (cs : List (List Literal)) (lines new : List Line) → map seen new ≡ map other_line (map seen lines) → Refutes most cs lines → Refutes vars (map other_clause cs) new
    refutes cs lines new e h = rw (same_start cs) (closes lines new (start cs) e h)

-- ---- solutions

module _ (f g : ℕ → ℕ) (back : (k : ℕ) → g (f k) ≡ k) where
  abbrev named_by : Literal → Literal
  named_by l = record { variable = f l.variable; positive = l.positive }

  clause_same : (v : ℕ → Bool) (c : List Literal) → clause_true (λ n. v (g n)) (map named_by c) ≡ clause_true v c
  clause_same v [] = refl
  clause_same v (l ∷ c) = rw (back l.variable, clause_same v c) refl

  solves : (v : ℕ → Bool) (cs : List (List Literal)) → Solves v cs → Solves (λ n. v (g n)) (map (λ (c : List Literal). map named_by c) cs)
  solves v cs h = All-map (λ (c : List Literal). clause_true (λ n. v (g n)) c ≡ true) (λ (c : List Literal). map named_by c) cs (λ k d low. clause_same v (get_or cs k d) ∙ h k d low)

  pub none_before : (cs : List (List Literal)) → HaveNoSolution (map (λ (c : List Literal). map named_by c) cs) → HaveNoSolution cs
  none_before cs h v s = h (λ n. v (g n)) (solves v cs s)
