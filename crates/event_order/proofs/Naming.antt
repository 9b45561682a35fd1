-- An order number names one list of steps from a state to a quiet one.
use Rattle.std.proofs.Common.{◌≡◌, ℕ, zero, suc, Bool, true, List, [], ◌∷◌, refl, sym, ap, ◌∙◌, subst, length, ◌<◌, ◌≤◌, ◌≢◌, ◌/◌, ◌%◌, ◌^◌, inl, inr, ◌⊎◌, true≢false, arith}
use Rattle.std.proofs.lemmas.Bool.{cases_eq}
use Rattle.design_core.specs.declared.flat.Design.{Design}
use Rattle.bit_exprs.specs.Values.{bit_at}
use Rattle.design_core.specs.Legality.{IsLegal}
use Rattle.event_order.specs.States.{State, IsIdle, IsQuiet}
use Rattle.event_order.specs.Steps.{Step, Run, Update, MayTake, ran, updated}
use Rattle.event_order.specs.Numbers.{numbers_from, chosen, next_number, Follows}
use Rattle.event_order.specs.Work.{work}
use Rattle.event_order.specs.Laws.{EveryNumberNamesOne}
use Rattle.event_order.proofs.Picking.{none_up, found_up}
use Rattle.event_order.proofs.Bounded.{still_flagged, less}

-- ---- at most one

no_run : (d : Design) (s : State) (k : ℕ) → IsIdle s → MayTake d s (Run k) → ⊥
no_run d s k idle may = true≢false (sym may.1 ∙ idle k)

module _ (d : Design) where
  one : (x : ℕ) (s : State) (xs : List Step) (y : ℕ) (t : State) (ys : List Step) (z : ℕ) (u : State) → Follows d x s xs y t → IsQuiet t → Follows d x s ys z u → IsQuiet u →
      (ys ≡ xs) × (z ≡ y) × (u ≡ t)
  one x s [] y t [] z u f q g r = (refl, sym g.0 ∙ f.0, sym g.1 ∙ f.1)
  one x s [] y t (Run k ∷ ys) z u f q g r = absurd (no_run d s k (subst IsIdle (sym f.1) q.idle) g.0)
  one x s [] y t (Update ∷ ys) z u f q g r = absurd (g.0.1 (ap (λ (a : State). a.waiting) f.1 ∙ q.done))
  one x s (Run k ∷ xs) y t [] z u f q g r = absurd (no_run d s k (subst IsIdle (sym g.1) r.idle) f.0)
  one x s (Run k ∷ xs) y t (Run j ∷ ys) z u f q g r =
      let same : j ≡ k = g.1 ∙ sym f.1 in
      let rest = one (next_number x) (ran d k s) xs y t ys z u f.2 q (subst (λ i. Follows d (next_number x) (ran d i s) ys z u) same g.2) r in
      ((λ i. Run (same i) ∷ rest.0 i), rest.1, rest.2)
  one x s (Run k ∷ xs) y t (Update ∷ ys) z u f q g r = absurd (no_run d s k g.0.0 f.0)
  one x s (Update ∷ xs) y t [] z u f q g r = absurd (f.0.1 (ap (λ (a : State). a.waiting) g.1 ∙ r.done))
  one x s (Update ∷ xs) y t (Run j ∷ ys) z u f q g r = absurd (no_run d s j f.0.0 g.0)
  one x s (Update ∷ xs) y t (Update ∷ ys) z u f q g r =
      let rest = one x (updated d s) xs y t ys z u f.1 q g.1 r in
      (ap (λ zs. Update ∷ zs) rest.0, rest.1, rest.2)

  -- ---- and there is one

  -- some steps that the number names
  record Named (x : ℕ) (s : State) : Type 0 where
    steps : List Step
    number : ℕ
    end : State
    follows : Follows d x s steps number end
    quiet : IsQuiet end

  pending_one : (flags : List Bool) (x : ℕ) → length (numbers_from 0 flags) ≢ 0 → (chosen flags x < length flags) × (bit_at flags (chosen flags x) ≡ true)
  pending_one flags x some =
      let n = length (numbers_from 0 flags) in
      let place = (x / 2 ^ 33) % n in
      let lt : place < n = omega (arith, some) in
      found_up flags place n (chosen flags x) refl lt refl

  nothing_or_some : (us : List (ℕ × Bool)) → (us ≡ []) ⊎ (us ≢ [])
  nothing_or_some [] = inl refl
  nothing_or_some (u ∷ us) = inr (λ e. cc)

  module _ (order : List ℕ) (legal : IsLegal d order) where
    -- the work that is left at a state
    abbrev left : State → ℕ
    left s = work d order s.pending s.waiting

    -- by the step that comes next, where less work is done already
    by_next : (x : ℕ) (s : State) → length s.pending ≡ length d.processes →
        ((x' : ℕ) (s' : State) → length s'.pending ≡ length d.processes → left s' < left s → Named x' s') → Named x s
    by_next x s long go_on = elim (cases_eq (length (numbers_from 0 s.pending)) 0) [
      | inl none ↦
          let idle : IsIdle s = none_up 0 s.pending none in
          elim (nothing_or_some s.waiting) [
            | inl done ↦ record { steps = []; number = x; end = s; follows = (refl, refl); quiet = record { idle = idle; done = done } }
            | inr some ↦
                let more = go_on x (updated d s) (still_flagged d order legal s Update long) (less d order legal s Update long (idle, some)) in
                record { steps = Update ∷ more.steps; number = more.number; end = more.end; follows = ((idle, some), more.follows); quiet = more.quiet }
          ]
      | inr some ↦
          let k = chosen s.pending x in
          let found = pending_one s.pending x some in
          let within : k < length d.processes = subst (λ m. k < m) long found.0 in
          let more = go_on (next_number x) (ran d k s) (still_flagged d order legal s (Run k) long) (less d order legal s (Run k) long (within, found.1)) in
          record { steps = Run k ∷ more.steps; number = more.number; end = more.end; follows = ((within, found.1), refl, more.follows); quiet = more.quiet }
    ]

    named : (n x : ℕ) (s : State) → length s.pending ≡ length d.processes → left s ≤ n → Named x s
    named zero x s long le = by_next x s long (λ x' s' l lt. absurd (omega arith))
    named (suc n) x s long le = by_next x s long (λ x' s' l lt. named n x' s' l (omega arith))

pub every_number_names_one : EveryNumberNamesOne
every_number_names_one d order x s legal long =
    let h = named d order legal (work d order s.pending s.waiting) x s long (omega arith) in
    record {
      steps = h.steps;
      number = h.number;
      end = h.end;
      follows = h.follows;
      quiet = h.quiet;
      only = λ ys z u g r. one d x s h.steps h.number h.end ys z u h.follows h.quiet g r;
    }
