-- A walk that ends at its first hit is a stimulus that hits.
use Rattle.std.proofs.Common.{◌≡◌, ◌↔◌, ℕ, zero, suc, ◌-◌, Bool, true, List, [], ◌∷◌, length, take, drop, get_or, Some, refl, sym, subst, ◌∙◌, arith}
use Rattle.std.specs.Prelude.{slice_get}
use Rattle.std.proofs.lemmas.List.Elements.{All-weaker}
use Rattle.design_core.specs.declared.flat.Design.{Design}
use Rattle.design_core.specs.declared.setup.Setup.{Setup}
use Rattle.design_core.specs.Settled.{Settled, Hit, next_of}
use Rattle.design_core.specs.Runs.{IsRun, Fits}
use Rattle.design_core.specs.Verdicts.{Passes, HitAt}
use Rattle.bit_system.specs.Machine.{Machine, IsInput, HitsAt, value_in_step, state_after, hit_literal}
use Rattle.plain_blast.specs.Bridge.{Follows}
use Rattle.ic3_frames.specs.declared.walk.Walk.{Walk}
use Rattle.ic3_frames.specs.Walks.{EndsAtFirstHit}
use Rattle.text_prover.specs.Naming.{stimulus_of}

module _ (d : Design) (sites : List ℕ) (m : Machine) (follows : Follows d sites m) where
  -- one step on
  later : (k : ℕ) (held line v : List Bool) (lines : List (List Bool)) (t : ℕ) → Settled d held line v → HitsAt m k held (line ∷ lines) (suc t) ↔ HitsAt m k (next_of d v) lines t
  later k held line v lines t s =
      let step = follows.next held line v s in (
        λ h. record { within = omega (arith, h.within); hit = subst (λ st. value_in_step m (state_after m st (take t lines)) (get_or lines t []) (hit_literal m k) ≡ true) step h.hit },
        λ h. record { within = omega (arith, h.within); hit = subst (λ st. value_in_step m (state_after m st (take t lines)) (get_or lines t []) (hit_literal m k) ≡ true) (sym step) h.hit },
      )

  -- a walk hits the point where the run hits the site
  alike : (k site : ℕ) → slice_get sites k ≡ Some site → (held : List Bool) (lines vs : List (List Bool)) → IsRun d held lines vs → (t : ℕ) → HitsAt m k held lines t ↔ Passes d site vs t
  alike k site at held [] [] r t = (λ h. absurd (omega (arith, h.within)), λ (v, e, h). cc)
  alike k site at held [] (v ∷ vs) r t = absurd r
  alike k site at held (line ∷ lines) [] r t = absurd r
  alike k site at held (line ∷ lines) (v ∷ vs) r zero =
      let here = follows.hits held line v r.0 k site at in (
        λ h. (v, refl, here.0 h.hit),
        λ (w, e, h). let same : v ≡ w = cc in record { within = omega arith; hit = here.1 (subst (λ x. Hit d x site) (sym same) h) },
      )
  alike k site at held (line ∷ lines) (v ∷ vs) r (suc t) =
      let step = later k held line v lines t r.0 in
      let rest = alike k site at (next_of d v) lines vs r.1 t in
      (λ h. rest.0 (step.0 h), λ h. step.1 (rest.1 h))

  module _ (setup : Setup) (none : setup.cycles ≡ 0) (inputs : m.graph.inputs ≡ length d.inputs) (k site : ℕ) (at : slice_get sites k ≡ Some site) (w : Walk) (ends : EndsAtFirstHit m k w) where
    abbrev cycle : ℕ
    cycle = length w.lines - 1

    last_is : ends.last ≡ cycle
    last_is = omega (arith, ends.long)

    fits : Fits d setup (stimulus_of w)
    fits = record {
      start = (follows.starts w.start).1 ends.is_walk.starts;
      wide = All-weaker (IsInput m) (λ (line : List Bool). length line ≡ length d.inputs) (λ line wide. wide ∙ inputs) w.lines ends.is_walk.each_input;
      held = λ j line lt is. absurd (omega (arith, lt, none));
    }

    abbrev Judged : List (List Bool) → ℕ → Type 0
    Judged vs t = Passes d site (drop setup.cycles vs) t

    judged : (vs : List (List Bool)) (t : ℕ) → Passes d site vs t → Judged vs t
    judged vs t h = subst (λ c. Passes d site (drop c vs) t) (sym none) h

    walked : (vs : List (List Bool)) (t : ℕ) → Judged vs t → Passes d site vs t
    walked vs t h = subst (λ c. Passes d site (drop c vs) t) none h

    pub hits_there : HitAt d setup (Passes d site) (stimulus_of w) cycle
    hits_there = record {
      fits = fits;
      ends = omega (arith, ends.long, none);
      hits = λ vs r. judged vs cycle ((alike k site at w.start w.lines vs r cycle).0 (subst (HitsAt m k w.start w.lines) last_is ends.hit));
      first = λ vs r u lt h. ends.first u (omega (arith, last_is, lt)) ((alike k site at w.start w.lines vs r u).1 (walked vs u h));
    }
