-- Clauses that have a part of the literals each, under a change of the literals or of a slot.
use Rattle.std.proofs.Common.{◌≡◌, ℕ, zero, suc, ◌+◌, ◌-◌, ◌<◌, ◌≤◌, Bool, true, false, List, [], ◌∷◌, ◌++◌, Some, None, length, take, drop, set, get_or, map, refl, ap, sym, subst, arith, ◌∙◌, ⊎_elim, inl, inr, ◌⊎◌}
use Rattle.std.specs.Prelude.{All, IsSome, if◌then◌else◌}
use Rattle.std.specs.List.{between, swap}
use Rattle.std.proofs.lemmas.Bool.{false≢true, cases_lt, cases_eq}
use Rattle.std.proofs.lemmas.List.{map-append, get_or-map, length-map, length-append, length-set, get_or-set_same, get_or-set_other, ext_get_or, take_at, length-take-le, length-drop}
use Rattle.std.proofs.lemmas.List.Elements.{All-head, All-tail, All-push}
use Rattle.std.proofs.lemmas.List.Edits.{length-between, length-swap}
use Rattle.std.proofs.lemmas.List.Quantifiers.{all_pairs_push}
use Rattle.std.proofs.lemmas.Slice.{between_is, take-put_mid_below, drop-put_mid, between-put_mid}
use Rattle.cnf_core.specs.Literal.{Literal}
use Rattle.cnf_core.specs.Spans.{cut, IsWithin}
use Rattle.cnf_core.specs.declared.Span.{Span}
use Rattle.cnf_core.proofs.Spans.{cut-append, cut-last}
use Rattle.clause_arena.specs.Stored.{Places, held, literals, AreApart}
use Rattle.clause_arena.specs.declared.Slot.{Slot}
use borrow.Rule.Slice.PartMut.{put_mid}

-- a place where a clause stands is there
pub live-in : (places : Places) (p : ℕ) → IsSome (get_or places p None) → p < length places
live-in [] p h = absurd (false≢true h)
live-in (x ∷ xs) zero h = omega arith
live-in (x ∷ xs) (suc p) h =
    let rest : p < length xs = live-in xs p h in
    omega arith

chosen : (b : Bool) (c : List Literal) → IsSome (if b then Some c else None) → (if b then Some c else None) ≡ Some c
chosen true c h = refl
chosen false c h = absurd (false≢true h)

pub slot-in : (lits : List Literal) (slots : List Slot) (p : ℕ) → IsSome (get_or (map (held lits) slots) p None) → p < length slots
slot-in lits slots p h =
    let there : p < length (map (held lits) slots) = live-in (map (held lits) slots) p h in
    omega (arith, length-map slots (held lits))

held-append : (lits more : List Literal) (s : Slot) → IsWithin (length lits) s.span → held (lits ++ more) s ≡ held lits s
held-append lits more s h = ap (λ c. if s.is_live then Some c else None) (cut-append lits more s.span h)

map-held-append :
    (lits more : List Literal) (slots : List Slot) → All (λ s. IsWithin (length lits) s.span) slots →
    map (held (lits ++ more)) slots ≡ map (held lits) slots
map-held-append lits more [] h = refl
map-held-append lits more (s ∷ ss) h =
    cc (
      held-append lits more s (All-head (λ s. IsWithin (length lits) s.span) s ss h),
      map-held-append lits more ss (All-tail (λ s. IsWithin (length lits) s.span) s ss h),
    )

-- a clause at the end of the literals
pub map-held-push :
    (lits more : List Literal) (slots : List Slot) (from to : ℕ) → AreApart lits slots →
    from ≡ length lits → to ≡ length lits + length more →
    map (held (lits ++ more)) (slots ++ record { span = record { from = from; to = to }; is_live = true } ∷ []) ≡ map (held lits) slots ++ Some more ∷ []
map-held-push lits more slots from to h f t =
    map-append (held (lits ++ more)) slots (record { span = record { from = from; to = to }; is_live = true } ∷ [])
    ∙ cc (map-held-append lits more slots h.within, ap (λ c. Some c) (cut-last lits more from to f t))

pub apart-push :
    (lits more : List Literal) (slots : List Slot) (s : Slot) → AreApart lits slots →
    s.span.from ≡ length lits → s.span.to ≡ length lits + length more → AreApart (lits ++ more) (slots ++ s ∷ [])
apart-push lits more slots s h f t =
    record {
      within =
          All-push
          (λ s. IsWithin (length (lits ++ more)) s.span)
          slots
          s
          (λ k d l.
          let was : IsWithin (length lits) (get_or slots k d).span = h.within k d l in
          (was.0, omega (arith, length-append lits more)))
          (omega arith, omega (arith, length-append lits more));
      apart =
          all_pairs_push
          (λ a b. a.span.to ≤ b.span.from)
          slots
          s
          h.apart
          (λ k d l.
          let was : IsWithin (length lits) (get_or slots k d).span = h.within k d l in
          omega arith);
    }

span-set :
    (slots : List Slot) (p : ℕ) (s d : Slot) → s.span ≡ (get_or slots p d).span → (i : ℕ) →
    (get_or (set slots p s) i d).span ≡ (get_or slots i d).span
span-set [] p s d e i = refl
span-set (x ∷ xs) zero s d e zero = e
span-set (x ∷ xs) zero s d e (suc i) = refl
span-set (x ∷ xs) (suc p) s d e zero = refl
span-set (x ∷ xs) (suc p) s d e (suc i) = span-set xs p s d e i

-- a slot that keeps its span
pub apart-set :
    (lits : List Literal) (slots : List Slot) (p : ℕ) (s : Slot) → AreApart lits slots →
    ((d : Slot) → s.span ≡ (get_or slots p d).span) → AreApart lits (set slots p s)
apart-set lits slots p s h e =
    record {
      within = λ k d l.
          let there : k < length slots = omega (arith, length-set slots p s) in
          subst (λ x. IsWithin (length lits) x) (sym (span-set slots p s d (e d) k)) (h.within k d there);
      apart = λ i j d b l.
          let there : j < length slots = omega (arith, length-set slots p s) in
          rw (span-set slots p s d (e d) i, span-set slots p s d (e d) j) (h.apart i j d b there);
    }

-- a part before or after the one that was written
cut-before :
    (lits ys : List Literal) (a k : ℕ) (s : Span) → s.to ≤ a → a ≤ length lits → cut (put_mid a k lits ys) s ≡ cut lits s
cut-before lits ys a k s b l =
    between_is (put_mid a k lits ys) s.from s.to
    ∙ ap (drop s.from) (take-put_mid_below a k lits ys s.to b l)
    ∙ sym (between_is lits s.from s.to)

cut-after :
    (lits ys : List Literal) (a k : ℕ) (s : Span) → a + k ≤ s.from → a ≤ length lits → length ys ≡ k → cut (put_mid a k lits ys) s ≡ cut lits s
cut-after lits ys a k s b l e = ap (take (s.to - s.from)) (drop-put_mid a k lits ys s.from b l e)

later : (i : ℕ) {p : ℕ} → p ≤ i → (i ≡ p → ⊥) → p < i
later i {p} b other = ⊎_elim (λ l. l) (λ g. absurd (other (omega arith))) (cases_lt p i)

length-written :
    (lits ys : List Literal) (s : Span) → IsWithin (length lits) s → length ys ≡ s.to - s.from →
    length (put_mid s.from (s.to - s.from) lits ys) ≡ length lits
length-written lits ys s within long =
    let front : length (take s.from lits) ≡ s.from = length-take-le s.from lits (omega arith) in
    length-append (take s.from lits) (ys ++ drop (s.to - s.from) (drop s.from lits))
    ∙ omega (
      arith,
      front,
      length-append ys (drop (s.to - s.from) (drop s.from lits)),
      length-drop (s.to - s.from) (drop s.from lits),
      length-drop s.from lits,
      long,
      within.0,
      within.1,
    )

-- one clause's literals, written anew: s is its slot
module _ (lits ys : List Literal) (slots : List Slot) (p : ℕ) (s : Slot) (h : AreApart lits slots) (in_slots : p < length slots) (is : get_or slots p s ≡ s) (live : s.is_live ≡ true) (long : length ys ≡ s.span.to - s.span.from) where
  abbrev pub written : List Literal
  written = put_mid s.span.from (s.span.to - s.span.from) lits ys

  own : IsWithin (length lits) s.span
  own = subst (λ x. IsWithin (length lits) x.span) is (h.within p s in_slots)

  cut-other : (i : ℕ) → i < length slots → (i ≡ p → ⊥) → cut written (get_or slots i s).span ≡ cut lits (get_or slots i s).span
  cut-other i l other =
      let mine : IsWithin (length lits) s.span = own in
      let inside : s.span.from ≤ length lits = omega arith in
      ⊎_elim
      (λ b.
      let before : (get_or slots i s).span.to ≤ s.span.from = subst (λ x. (get_or slots i s).span.to ≤ x.span.from) is (h.apart i p s b in_slots) in
      cut-before lits ys s.span.from (s.span.to - s.span.from) (get_or slots i s).span before inside)
      (λ b.
      let after : s.span.to ≤ (get_or slots i s).span.from =
      subst (λ x. x.span.to ≤ (get_or slots i s).span.from) is (h.apart p i s (later i b other) l) in
      cut-after lits ys s.span.from (s.span.to - s.span.from) (get_or slots i s).span (omega arith) inside long)
      (cases_lt i p)

  held-own : held written s ≡ Some ys
  held-own =
      let mine : IsWithin (length lits) s.span = own in
      let inside : s.span.from ≤ length lits = omega arith in
      rw live (ap (λ c. Some c) (between-put_mid s.span.from (s.span.to - s.span.from) lits ys s.span.to inside long))

  held-at : (i : ℕ) → i < length slots → (i ≡ p) ⊎ (i ≡ p → ⊥) → get_or (map (held written) slots) i None ≡ get_or (set (map (held lits) slots) p (Some ys)) i None
  held-at i l (inl same) =
      let there : p < length (map (held lits) slots) = omega (arith, length-map slots (held lits)) in
      rw
      same
      (get_or-map (held written) slots p s None in_slots
      ∙ ap (held written) is
      ∙ held-own
      ∙ sym (get_or-set_same (map (held lits) slots) p (Some ys) None there))
  held-at i l (inr other) =
      get_or-map (held written) slots i s None l
      ∙ ap (λ c. if (get_or slots i s).is_live then Some c else None) (cut-other i l other)
      ∙ sym (get_or-map (held lits) slots i s None l)
      ∙ sym (get_or-set_other (map (held lits) slots) p i (Some ys) None other)

  pub map-held-written : map (held written) slots ≡ set (map (held lits) slots) p (Some ys)
  map-held-written =
      ext_get_or
      None
      (map (held written) slots)
      (set (map (held lits) slots) p (Some ys))
      (length-map slots (held written) ∙ sym (length-set (map (held lits) slots) p (Some ys) ∙ length-map slots (held lits)))
      (λ i l. held-at i (omega (arith, length-map slots (held written))) (cases_eq i p))

chosen-live : (b : Bool) (c : List Literal) → IsSome (if b then Some c else None) → b ≡ true
chosen-live true c h = refl
chosen-live false c h = absurd (false≢true h)

-- two literals of a clause swapped: n is the length of all literals
pub map-held-swap :
    (lits ys : List Literal) (slots : List Slot) (p n i j : ℕ) (s : Slot) → AreApart lits slots →
    IsSome (get_or (map (held lits) slots) p None) → n ≡ length lits → s ≡ get_or slots p s →
    ys ≡ swap (between s.span.from s.span.to lits) i j → (rest : List Literal) →
    map (held (take n (put_mid s.span.from (s.span.to - s.span.from) lits ys ++ rest))) slots
    ≡ set (map (held lits) slots) p (Some (swap (literals (get_or (map (held lits) slots) p None)) i j))
map-held-swap lits ys slots p n i j s h live e is y rest =
    let there : p < length slots = slot-in lits slots p live in
    let stands : get_or (map (held lits) slots) p None ≡ held lits s = get_or-map (held lits) slots p s None there ∙ ap (held lits) (sym is) in
    let chosen_live : s.is_live ≡ true = chosen-live s.is_live (cut lits s.span) (subst (λ o. IsSome o) stands live) in
    let shown : get_or (map (held lits) slots) p None ≡ Some (cut lits s.span) = stands ∙ chosen s.is_live (cut lits s.span) (subst (λ o. IsSome o) stands live) in
    let own_in : IsWithin (length lits) s.span = subst (λ x. IsWithin (length lits) x.span) (sym is) (h.within p s there) in
    let long : length ys ≡ s.span.to - s.span.from =
    ap length y ∙ length-swap (between s.span.from s.span.to lits) i j ∙ length-between lits s.span.from s.span.to own_in.1 in
    let inside : s.span.from ≤ length lits = omega arith in
    let all : length (put_mid s.span.from (s.span.to - s.span.from) lits ys) ≡ n = omega (arith, length-written lits ys s.span own_in long, e) in
    ap (λ x. map (held x) slots) (take_at (put_mid s.span.from (s.span.to - s.span.from) lits ys) rest n all)
    ∙ map-held-written lits ys slots p s h there (sym is) chosen_live long
    ∙ ap (λ c. set (map (held lits) slots) p (Some c)) (y ∙ ap (λ o. swap (literals o) i j) (sym shown))
