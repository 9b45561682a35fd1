-- The first hit of a site in the runs of given lines.
use Rattle.std.proofs.Common.{◌≡◌, ℕ, zero, suc, ◌+◌, Bool, true, false, List, [], ◌∷◌, refl, sym, ap, ◌∙◌, subst, get_or, drop, length, ◌<◌, ◌≤◌, arith, inl, inr, ◌-◌, ◌==◌, true≢false}
use Rattle.std.specs.Prelude.{slice_get, Option, Some, None, ◌↔◌, IsTrue}
use Rattle.std.proofs.lemmas.List.{at_drop_more, get_or_default}
use Rattle.std.proofs.lemmas.Bool.{cases_lt, eq-eqb, eqb-true}
use Rattle.design_core.specs.declared.flat.Design.{Design}
use Rattle.design_core.specs.declared.setup.Setup.{Setup}
use Rattle.design_core.specs.declared.setup.Stimulus.{Stimulus}
use Rattle.bit_exprs.specs.Values.{bit_at}
use Rattle.design_core.specs.Settled.{Settled, next_of, Hit}
use Rattle.design_core.specs.Alike.{Alike, SettlesAt}
use Rattle.design_core.specs.Ordered.{Ordered}
use Rattle.cycle_model.specs.Clocking.{IsMarked}
use Rattle.design_core.specs.Legality.{IsLegal}
use Rattle.design_core.specs.Runs.{IsRun, Fits}
use Rattle.design_core.specs.Verdicts.{Passes, HitAt}
use Rattle.design_core.proofs.RunLaws.{run_exists}
use Rattle.cycle_model.specs.Replay.{NoHit, FirstHit}

-- ---- one cycle after another

-- what a run of the lines is from the cycle k on, where the registers then are `now`
pub record Replaying (d : Design) (held : List Bool) (lines : List (List Bool)) (skip site k : ℕ) (now : List Bool) : Type 0 where
  pub runs : (vs : List (List Bool)) → IsRun d held lines vs → IsRun d now (drop k lines) (drop k vs)
  pub none : (vs : List (List Bool)) → IsRun d held lines vs → NoHit d skip k site vs

pub replay_start : (d : Design) (held : List Bool) (lines : List (List Bool)) (skip site : ℕ) → Replaying d held lines skip site 0 held
replay_start d held lines skip site = record { runs = λ vs r. r; none = λ vs r u le lt h. omega arith }

drop_split : (vs : List (List Bool)) (k : ℕ) (w : List Bool) (ws : List (List Bool)) → drop k vs ≡ w ∷ ws → (slice_get vs k ≡ Some w) × (drop (k + 1) vs ≡ ws)
drop_split [] zero w ws e = cc
drop_split [] (suc k) w ws e = cc
drop_split (v ∷ vs) zero w ws e = let a : v ≡ w = cc in let b : vs ≡ ws = cc in (ap Some a, b)
drop_split (v ∷ vs) (suc k) w ws e =
    let rest = drop_split vs k w ws e in
    let same : suc k + 1 ≡ suc (k + 1) = omega arith in (rest.0, ap (λ n. drop n (v ∷ vs)) same ∙ rest.1)

-- the cycle k of a run
record Cycle (d : Design) (now line : List Bool) (lines : List (List Bool)) (k : ℕ) (vs : List (List Bool)) : Type 0 where
  w : List Bool
  at : slice_get vs k ≡ Some w
  settled : Settled d now line w
  rest : IsRun d (next_of d w) (drop (k + 1) lines) (drop (k + 1) vs)

cycle_of : (d : Design) (now line : List Bool) (lines : List (List Bool)) (k : ℕ) (vs ds : List (List Bool)) → drop k vs ≡ ds →
    IsRun d now (line ∷ drop (k + 1) lines) ds → Cycle d now line lines k vs
cycle_of d now line lines k vs [] e r = absurd r
cycle_of d now line lines k vs (w ∷ ws) e r =
    let parts = drop_split vs k w ws e in
    record { w = w; at = parts.0; settled = r.0; rest = subst (λ x. IsRun d (next_of d w) (drop (k + 1) lines) x) (sym parts.1) r.1 }

module _ (d : Design) (order : List ℕ) (held : List Bool) (lines : List (List Bool)) (skip site k : ℕ) (now line v later x : List Bool) (lt : k < length lines) (is : line ≡ get_or lines k x)
    (only : (w : List Bool) → Settled d now line w → Alike d order w v) (held_is : later ≡ next_of d v) (h : Replaying d held lines skip site k now) where
  front : drop k lines ≡ line ∷ drop (k + 1) lines
  front = at_drop_more (λ r. r) lines k x lt ∙ ap (λ y. y ∷ drop (k + 1) lines) (sym is)

  this : (vs : List (List Bool)) → IsRun d held lines vs → Cycle d now line lines k vs
  this vs r = cycle_of d now line lines k vs (drop k vs) refl (subst (λ x. IsRun d now x (drop k vs)) front (h.runs vs r))

  -- the hit of a run in this cycle is the hit on v
  from_run : (vs : List (List Bool)) → IsRun d held lines vs → Passes d site vs k → Hit d v site
  from_run vs r (w, at, hit) =
      let c = this vs r in
      let same : w ≡ c.w = some_same w c.w (sym at ∙ c.at) in
      ((only c.w c.settled).hits site).0 (subst (λ x. Hit d x site) same hit)
    where
      some_same : (x y : List Bool) → Some x ≡ Some y → x ≡ y
      some_same x y e = cc

  to_run : (vs : List (List Bool)) → IsRun d held lines vs → Hit d v site → Passes d site vs k
  to_run vs r hit = let c = this vs r in (c.w, c.at, ((only c.w c.settled).hits site).1 hit)

  pub replay_more : (skip ≤ k → Hit d v site → ⊥) → Replaying d held lines skip site (k + 1) later
  replay_more not_hit = record {
    runs = λ vs r. let c = this vs r in
        subst (λ x. IsRun d x (drop (k + 1) lines) (drop (k + 1) vs)) ((only c.w c.settled).next ∙ sym held_is) c.rest;
    none = λ vs r u le below p. elim (cases_lt u k) [
      | inl lt' ↦ h.none vs r u le lt' p
      | inr ge ↦ let e : u ≡ k = omega arith in not_hit (subst (λ n. skip ≤ n) e le) (from_run vs r (subst (Passes d site vs) e p))
    ];
  }

  pub replay_hit : skip ≤ k → Hit d v site → FirstHit d held lines skip site (Some k)
  replay_hit le hit = (le, lt, λ vs r. (to_run vs r hit, h.none vs r))

-- a cycle of a simulator
module _ (m m0 : Ordered) (same : m ≡ m0) (held : List Bool) (lines : List (List Bool)) (skip site k : ℕ) (now line v later flags x : List Bool) (lt : k < length lines) (is : line ≡ get_or lines k x)
    (settles : SettlesAt m.design m.order now line v) (held_is : later ≡ next_of m.design v) (marks : IsMarked m.design v flags) (in_range : site < length m0.design.sites)
    (h : Replaying m0.design held lines skip site k now) where
  settles0 : SettlesAt m0.design m0.order now line v
  settles0 = subst (λ (y : Ordered). SettlesAt y.design y.order now line v) same settles

  held0 : later ≡ next_of m0.design v
  held0 = held_is ∙ ap (λ (y : Ordered). next_of y.design v) same

  flag : (bit_at flags site ≡ true) ↔ Hit m0.design v site
  flag = (subst (λ (y : Ordered). IsMarked y.design v flags) same marks).hits site in_range

  pub cycle_more : (skip ≤ k → bit_at flags site ≡ false) → Replaying m0.design held lines skip site (k + 1) later
  cycle_more down = replay_more m0.design m0.order held lines skip site k now line v later x lt is settles0.only held0 h
      (λ le hit. true≢false (sym (flag.1 hit) ∙ down le))

  pub cycle_hit : skip ≤ k → bit_at flags site ≡ true → FirstHit m0.design held lines skip site (Some k)
  cycle_hit le up = replay_hit m0.design m0.order held lines skip site k now line v later x lt is settles0.only held0 h le (flag.0 up)

-- a flag, as it is read
pub flag_read : (m m0 : Ordered) (flags items : List Bool) (site : ℕ) (r b : Bool) → m ≡ m0 → length flags ≡ length m.design.sites → site < length m0.design.sites →
    items ≡ flags → r ≡ get_or items site r → r ≡ b → bit_at flags site ≡ b
flag_read m m0 flags items site r b same long in_range is read value =
    let in_flags : site < length flags = omega (arith, ap (λ (y : Ordered). length y.design.sites) same) in
    sym (get_or_default flags site r false in_flags) ∙ ap (λ (x : List Bool). get_or x site r) (sym is) ∙ sym read ∙ value

pub replay_none : (d : Design) (held : List Bool) (lines : List (List Bool)) (skip site k : ℕ) (now : List Bool) → length lines ≤ k →
    Replaying d held lines skip site k now → FirstHit d held lines skip site None
replay_none d held lines skip site k now le h = λ vs r u ge lt p. h.none vs r u ge (omega arith) p

-- ---- the verdict

slice_get-drop : (vs : List (List Bool)) (n u : ℕ) → slice_get (drop n vs) u ≡ slice_get vs (n + u)
slice_get-drop vs zero u = let e : u ≡ 0 + u = omega arith in ap (slice_get vs) e
slice_get-drop [] (suc n) u = refl
slice_get-drop (v ∷ vs) (suc n) u = let e : suc n + u ≡ suc (n + u) = omega arith in slice_get-drop vs n u ∙ ap (slice_get (v ∷ vs)) (sym e)

judged : (d : Design) (site : ℕ) (vs : List (List Bool)) (n u : ℕ) → Passes d site vs (n + u) → Passes d site (drop n vs) u
judged d site vs n u (v, at, hit) = (v, slice_get-drop vs n u ∙ at, hit)

unjudged : (d : Design) (site : ℕ) (vs : List (List Bool)) (n u : ℕ) → Passes d site (drop n vs) u → Passes d site vs (n + u)
unjudged d site vs n u (v, at, hit) = (v, sym (slice_get-drop vs n u) ∙ at, hit)

module _ (d : Design) (order : List ℕ) (legal : IsLegal d order) (setup : Setup) (s : Stimulus) (site t : ℕ) (fits : Fits d setup s) (ends : length s.lines ≡ setup.cycles + t + 1) where
  some_run : (vs : List (List Bool)) × IsRun d s.start s.lines vs
  some_run = run_exists d order legal s.start s.lines fits.start.wide fits.wide

  pub none_is_no_hit : FirstHit d s.start s.lines setup.cycles site None → HitAt d setup (Passes d site) s t → ⊥
  none_is_no_hit first at =
      let (vs, r) = some_run in
      first vs r (setup.cycles + t) (omega arith) (omega arith) (unjudged d site vs setup.cycles t (at.hits vs r))

  pub last_is_hit : (k : ℕ) → FirstHit d s.start s.lines setup.cycles site (Some k) → k + 1 ≡ length s.lines → HitAt d setup (Passes d site) s t
  last_is_hit k first last =
      let e : k ≡ setup.cycles + t = omega arith in
      record {
        fits = fits;
        ends = ends;
        hits = λ vs r. judged d site vs setup.cycles t (subst (Passes d site vs) e (first.2 vs r).0);
        first = λ vs r u lt p. (first.2 vs r).1 (setup.cycles + u) (omega arith) (omega arith) (unjudged d site vs setup.cycles u p);
      }

  pub hit_is_last : (k : ℕ) → FirstHit d s.start s.lines setup.cycles site (Some k) → HitAt d setup (Passes d site) s t → k + 1 ≡ length s.lines
  hit_is_last k first at = elim (cases_lt k (setup.cycles + t)) [
    | inl before ↦
        let (vs, r) = some_run in
        let u : ℕ = k - setup.cycles in
        let e : k ≡ setup.cycles + u = omega (arith, first.0) in
        absurd (at.first vs r u (omega (arith, first.0)) (judged d site vs setup.cycles u (subst (Passes d site vs) e (first.2 vs r).0)))
    | inr after ↦ omega (arith, first.1)
  ]

-- the verdict, as it is found by a simulator
module _ (m m0 : Ordered) (d : Design) (setup : Setup) (s : Stimulus) (site t : ℕ) (lines : List (List Bool)) (held start : List Bool) (is : d ≡ m0.design) (legal : IsLegal d m0.order)
    (fits : Fits d setup s) (listed : lines ≡ s.lines) (ends : length lines ≡ setup.cycles + t + 1) (made : m ≡ m0) (begun : held ≡ start) (begins : start ≡ s.start) where
  legal0 : IsLegal m0.design m0.order
  legal0 = subst (λ (x : Design). IsLegal x m0.order) is legal

  fits0 : Fits m0.design setup s
  fits0 = subst (λ (x : Design). Fits x setup s) is fits

  ends0 : length s.lines ≡ setup.cycles + t + 1
  ends0 = ap length (sym listed) ∙ ends

  found : (o : Option ℕ) → FirstHit m.design held lines setup.cycles site o → FirstHit m0.design s.start s.lines setup.cycles site o
  found o h =
      subst (λ (x : List (List Bool)). FirstHit m0.design s.start x setup.cycles site o) listed
      (subst (λ (x : List Bool). FirstHit m0.design x lines setup.cycles site o) (begun ∙ begins)
      (subst (λ (x : Ordered). FirstHit x.design held lines setup.cycles site o) made h))

  pub none_verdict : FirstHit m.design held lines setup.cycles site None → IsTrue false ↔ HitAt m0.design setup (Passes m0.design site) s t
  none_verdict h =
      (λ no. absurd (true≢false (sym no)), λ at. absurd (none_is_no_hit m0.design m0.order legal0 setup s site t fits0 ends0 (found None h) at))

  pub some_verdict : (k : ℕ) → FirstHit m.design held lines setup.cycles site (Some k) → IsTrue (k + 1 == length lines) ↔ HitAt m0.design setup (Passes m0.design site) s t
  some_verdict k h = (
    λ last. last_is_hit m0.design m0.order legal0 setup s site t fits0 ends0 k (found (Some k) h) (eqb-true (k + 1) (length lines) last ∙ ap length listed),
    λ at. eq-eqb (k + 1) (length lines) (hit_is_last m0.design m0.order legal0 setup s site t fits0 ends0 k (found (Some k) h) at ∙ ap length (sym listed)),
  )
