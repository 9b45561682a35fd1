-- Reading values a line each, as a loop does.
use Rattle.std.proofs.Common.{◌≡◌, ℕ, suc, ◌+◌, ◌-◌, ◌<◌, List, [], ◌∷◌, ◌++◌, Option, Some, None, Ok, Err, refl, sym, ap, subst, ◌∙◌, append_assoc, ◌⊎◌, inl, inr, arith}
use Rattle.line_text.specs.Lines.{Line, Source}
use Rattle.line_text.specs.Reading.{Read, ◌>>=◌, first_line, next, after_item, until_from, times}
use Rattle.line_text.proofs.Laws.{ok_is}

-- the next line is the first of those that are left
record Steps (n : ℕ) (ls : List Line) (t : List ℕ) (l : Line) (s : Source) : Type 0 where
  pub lines : ls ≡ l ∷ s.lines
  pub line : s.line ≡ n + 1
  pub tail : s.tail ≡ t

steps : (n : ℕ) (ls : List Line) (t : List ℕ) (l : Line) (s : Source) → first_line n ls t ≡ Ok (l, s) → Steps n ls t l s
steps n [] t l s e = absurd cc
steps n (k ∷ ks) t l s e =
    let made : Line × Source = (k, record { line = n + 1; lines = ks; tail = t }) in
    let q : made ≡ (l, s) = ok_is made (l, s) e in
    subst (λ (p : Line × Source). Steps n (k ∷ ks) t p.0 p.1) q (record { lines = refl; line = refl; tail = refl })

until_step : {X Y : Type 0} (f : List X → Line → Option (X ⊎ Y)) (seen : List X) (u : Source) (l : Line) (s : Source) → next u ≡ Ok (l, s)
    → until_from f seen u.line u.lines u.tail ≡ after_item (λ x. until_from f (seen ++ x ∷ []) s.line s.lines s.tail) (λ y. Ok ((seen, y), s)) (Err u.line) (f seen l)
until_step f seen u l s e =
    let a = steps u.line u.lines u.tail l s e in
    ap (λ (ls : List Line). until_from f seen u.line ls u.tail) a.lines
    ∙ ap (λ (t : List ℕ). after_item (λ x. until_from f (seen ++ x ∷ []) (u.line + 1) s.lines t) (λ y. Ok ((seen, y), record { line = u.line + 1; lines = s.lines; tail = t })) (Err u.line) (f seen l)) (sym a.tail)
    ∙ ap (λ (n : ℕ). after_item (λ x. until_from f (seen ++ x ∷ []) n s.lines s.tail) (λ y. Ok ((seen, y), record { line = n; lines = s.lines; tail = s.tail })) (Err u.line) (f seen l)) (sym a.line)

pub goes_on : {X Y : Type 0} (f : List X → Line → Option (X ⊎ Y)) (seen : List X) (u : Source) (l : Line) (s : Source) (x : X) (total : Read (List X × Y)) → next u ≡ Ok (l, s) → f seen l ≡ Some (inl x)
    → until_from f seen u.line u.lines u.tail ≡ total → until_from f (seen ++ x ∷ []) s.line s.lines s.tail ≡ total
goes_on f seen u l s x total e h so_far =
    sym (until_step f seen u l s e ∙ ap (after_item (λ x. until_from f (seen ++ x ∷ []) s.line s.lines s.tail) (λ y. Ok ((seen, y), s)) (Err u.line)) h) ∙ so_far

pub ends : {X Y : Type 0} (f : List X → Line → Option (X ⊎ Y)) (seen : List X) (u : Source) (l : Line) (s : Source) (y : Y) (total : Read (List X × Y)) → next u ≡ Ok (l, s) → f seen l ≡ Some (inr y)
    → until_from f seen u.line u.lines u.tail ≡ total → total ≡ Ok ((seen, y), s)
ends f seen u l s y total e h so_far =
    sym so_far ∙ until_step f seen u l s e ∙ ap (after_item (λ x. until_from f (seen ++ x ∷ []) s.line s.lines s.tail) (λ y. Ok ((seen, y), s)) (Err u.line)) h

pub is_bad : {X Y : Type 0} (f : List X → Line → Option (X ⊎ Y)) (seen : List X) (u : Source) (l : Line) (s : Source) (total : Read (List X × Y)) → next u ≡ Ok (l, s) → f seen l ≡ None
    → until_from f seen u.line u.lines u.tail ≡ total → total ≡ Err u.line
is_bad f seen u l s total e h so_far =
    sym so_far ∙ until_step f seen u l s e ∙ ap (after_item (λ x. until_from f (seen ++ x ∷ []) s.line s.lines s.tail) (λ y. Ok ((seen, y), s)) (Err u.line)) h

-- ---- a count of values

-- what was read before, and what is still read
abbrev pub with_front : {X : Type 0} → List X → Read (List X) → Read (List X)
with_front front read = read >>= λ xs. Ok (front ++ xs.0, xs.1)

regroup : {X : Type 0} (front : List X) (x : X) (read : Read (List X)) → with_front front (read >>= λ xs. Ok (x ∷ xs.0, xs.1)) ≡ with_front (front ++ x ∷ []) read
regroup front x (Ok xs) = ap (λ ys. Ok (ys, xs.1)) (sym (append_assoc front (x ∷ []) xs.0))
regroup front x (Err n) = refl

pub counts_on : {X : Type 0} (r : ℕ → Source → Read X) (front : List X) (count i : ℕ) (u : Source) (x : X) (s : Source) (total : Read (List X)) → i < count → r i u ≡ Ok (x, s)
    → with_front front (times (count - i) i r u) ≡ total → with_front (front ++ x ∷ []) (times (count - (i + 1)) (i + 1) r s) ≡ total
counts_on {X} r front count i u x s total lt h so_far =
    let k : count - i ≡ suc (count - (i + 1)) = omega arith in
    let one : with_front front (times (count - i) i r u) ≡ with_front (front ++ x ∷ []) (times (count - (i + 1)) (i + 1) r s) =
    ap (λ (c : ℕ). with_front front (times c i r u)) k
    ∙ ap (λ (a : Read X). with_front front (a >>= λ x. times (count - (i + 1)) (i + 1) r x.1 >>= λ xs. Ok (x.0 ∷ xs.0, xs.1))) h
    ∙ regroup front x (times (count - (i + 1)) (i + 1) r s) in
    sym one ∙ so_far
