-- Compaction, one place after another.
use Rattle.std.proofs.Common.{◌≡◌, ℕ, ◌+◌, ◌<◌, false, List, [], ◌∷◌, ◌++◌, Option, Some, None, length, take, get_or, refl, ap, sym, subst, arith, ◌∙◌, ⊎_elim, inl, inr, ◌⊎◌}
use Rattle.std.specs.Prelude.{IsSome, is_some}
use Rattle.std.specs.List.{Any, filter}
use Rattle.std.proofs.lemmas.Bool.{false≢true, cases_lt}
use Rattle.std.proofs.lemmas.List.{append-nil, length_push, get_or_append_left, get_or_push, take_more, length-take-le}
use Rattle.std.proofs.lemmas.List.Elements.{All-push, All-weaker, filter-append}
use Rattle.std.proofs.lemmas.List.Quantifiers.{all_pairs_push, Any-push}
use Rattle.cnf_core.specs.Literal.{Literal}
use Rattle.clause_arena.specs.Stored.{Places, clause_at, IsLive}
use Rattle.clause_arena.specs.Moving.{Compacts}
use Rattle.clause_arena.specs.declared.Ref.{Ref}
use Rattle.clause_arena.specs.declared.Move.{Move}
use Rattle.clause_arena.proofs.Laid.{live-in}

none : (k : ℕ) → k < 0 → ⊥
none k l = omega (arith, l)

-- a reference of one of the first places
live-first : (old : Places) (y : Option (List Literal)) (at : Ref) → IsLive old at → clause_at (old ++ y ∷ []) at ≡ clause_at old at
live-first old y at h = get_or_append_left old (y ∷ []) None at.place (live-in old at.place h)

-- a place that stands is one of the first or the last
first-or-last : (old : Places) (y : Option (List Literal)) (p : ℕ) → IsSome (get_or (old ++ y ∷ []) p None) → (p < length old) ⊎ (p ≡ length old)
first-or-last old y p h =
    let there : p < length (old ++ y ∷ []) = live-in (old ++ y ∷ []) p h in
    ⊎_elim (λ l. inl l) (λ g. inr (omega (arith, length_push old y))) (cases_lt p (length old))

abbrev Follows : Places → Places → Move → Type 0
Follows old new m = IsLive old m.from × (clause_at new m.to ≡ clause_at old m.from)

-- the moved reference is for a place that is there
to-in : (old new : Places) (m : Move) → Follows old new m → m.to.place < length new
to-in old new m h = live-in new m.to.place (subst (λ o. IsSome o) (sym h.1) h.0)

follows-more :
    (old new : Places) (y : Option (List Literal)) (m : Move) → clause_at new m.to ≡ clause_at old m.from → IsLive old m.from →
    Follows (old ++ y ∷ []) new m
follows-more old new y m e h =
    let first : clause_at (old ++ y ∷ []) m.from ≡ clause_at old m.from = live-first old y m.from h in
    (subst (λ o. IsSome o) (sym first) h, e ∙ sym first)

follows-skip : (old new : Places) (y : Option (List Literal)) (m : Move) → Follows old new m → Follows (old ++ y ∷ []) new m
follows-skip old new y m h = follows-more old new y m h.1 h.0

follows-keep :
    (old new : Places) (y z : Option (List Literal)) (m : Move) → Follows old new m → Follows (old ++ y ∷ []) (new ++ z ∷ []) m
follows-keep old new y z m h =
    follows-more old (new ++ z ∷ []) y m (get_or_append_left new (z ∷ []) None m.to.place (to-in old new m h) ∙ h.1) h.0

any-first : (P : Move → Type 0) (moves : List Move) (m : Move) → Any P moves → Any P (moves ++ m ∷ [])
any-first P moves m h =
    let there : h.0 < length moves = h.2 in
    (h.0, h.1, omega (arith, length_push moves m), get_or_append_left moves (m ∷ []) h.1 h.0 there ∙ h.3, h.4)

pub compacts-none : Compacts [] [] []
compacts-none =
    record {
      kept = refl;
      same = λ k d l. absurd (none k l);
      all = λ at h. absurd (false≢true h);
      rising = λ i j d b l. absurd (none j l);
    }

compacts-skip : (old new : Places) (moves : List Move) → Compacts old new moves → Compacts (old ++ None ∷ []) new moves
compacts-skip old new moves h =
    record {
      kept = h.kept ∙ sym (filter-append is_some old (None ∷ []) ∙ append-nil (filter is_some old));
      same = All-weaker (Follows old new) (Follows (old ++ None ∷ []) new) (follows-skip old new None) moves h.same;
      all = λ at live.
          ⊎_elim
          (λ l. h.all at (subst (λ o. IsSome o) (get_or_append_left old (None ∷ []) None at.place l) live))
          (λ e. absurd (false≢true (ap is_some (sym (get_or_push old None None at.place (sym e))) ∙ live)))
          (first-or-last old None at.place live);
      rising = h.rising;
    }

compacts-keep :
    (old new : Places) (moves : List Move) (clause : List Literal) (m : Move) → Compacts old new moves →
    m.from.place ≡ length old → m.to.place ≡ length new →
    Compacts (old ++ Some clause ∷ []) (new ++ Some clause ∷ []) (moves ++ m ∷ [])
compacts-keep old new moves clause m h f t =
    record {
      kept = ap (λ xs. xs ++ Some clause ∷ []) h.kept ∙ sym (filter-append is_some old (Some clause ∷ []));
      same =
          All-push
          (Follows (old ++ Some clause ∷ []) (new ++ Some clause ∷ []))
          moves
          m
          (All-weaker
          (Follows old new)
          (Follows (old ++ Some clause ∷ []) (new ++ Some clause ∷ []))
          (follows-keep old new (Some clause) (Some clause))
          moves
          h.same) (
            ap is_some (get_or_push old (Some clause) None m.from.place (sym f)),
            get_or_push new (Some clause) None m.to.place (sym t) ∙ sym (get_or_push old (Some clause) None m.from.place (sym f)),
          );
      all = λ at live.
          ⊎_elim
          (λ l.
          any-first
          (λ n. n.from.place ≡ at.place)
          moves
          m
          (h.all at (subst (λ o. IsSome o) (get_or_append_left old (Some clause ∷ []) None at.place l) live)))
          (λ e. Any-push (λ n. n.from.place ≡ at.place) moves m (f ∙ sym e))
          (first-or-last old (Some clause) at.place live);
      rising =
          all_pairs_push
          (λ a b. (a.from.place < b.from.place) × (a.to.place < b.to.place))
          moves
          m
          h.rising
          (λ k d l.
          let was : Follows old new (get_or moves k d) = h.same k d l in
          let from_in : (get_or moves k d).from.place < length old = live-in old (get_or moves k d).from.place was.0 in
          let to_in : (get_or moves k d).to.place < length new = to-in old new (get_or moves k d) was in
          (omega arith, omega arith));
    }

gone : (o : Option (List Literal)) → is_some o ≡ false → o ≡ None
gone None h = refl
gone (Some clause) h = absurd (false≢true (sym h))

-- the step of a loop over the places
pub skip-more :
    (old new : Places) (moves : List Move) (at : ℕ) → at < length old → Compacts (take at old) new moves →
    is_some (get_or old at None) ≡ false → Compacts (take (at + 1) old) new moves
skip-more old new moves at l h empty =
    subst
    (λ xs. Compacts xs new moves)
    (sym (take_more old at None l ∙ ap (λ o. take at old ++ o ∷ []) (gone (get_or old at None) empty)))
    (compacts-skip (take at old) new moves h)

pub keep-more :
    (old new : Places) (moves : List Move) (at : ℕ) (clause : List Literal) (m : Move) → at < length old → Compacts (take at old) new moves →
    Some clause ≡ get_or old at None → m.from.place ≡ at → m.to.place ≡ length new →
    Compacts (take (at + 1) old) (new ++ Some clause ∷ []) (moves ++ m ∷ [])
keep-more old new moves at clause m l h is f t =
    subst
    (λ xs. Compacts xs (new ++ Some clause ∷ []) (moves ++ m ∷ []))
    (sym (take_more old at None l ∙ ap (λ o. take at old ++ o ∷ []) (sym is)))
    (compacts-keep (take at old) new moves clause m h (f ∙ sym (length-take-le at old (omega arith))) t)
