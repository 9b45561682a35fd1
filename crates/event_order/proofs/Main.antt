-- The laws.
use Rattle.std.proofs.Common.{◌≡◌, ℕ, zero, suc, ◌<◌, Bool, false, List, [], ◌∷◌, refl, sym, ap, ◌∙◌, subst, length, drop, replicate, get_or, arith}
use Rattle.std.specs.Prelude.{zip}
use Rattle.std.proofs.lemmas.List.{length-map, length-replicate}
use Rattle.std.proofs.lemmas.Option.{slice_get_within, slice_get-get_or, get_or_from_slice_get}
use Rattle.std.proofs.lemmas.List.Elements.{All-head, All-tail}
use Rattle.design_core.specs.declared.flat.Process.{Process}
use Rattle.design_core.specs.declared.flat.Design.{Design}
use Rattle.design_core.specs.declared.setup.Setup.{Setup}
use Rattle.design_core.specs.declared.setup.Stimulus.{Stimulus}
use Rattle.bit_exprs.specs.Updates.{perform}
use Rattle.design_core.specs.Settled.{is_clocked, next_of, Hit}
use Rattle.design_core.specs.Legality.{IsLegal}
use Rattle.design_core.specs.Alike.{Alike}
use Rattle.design_core.specs.Runs.{IsRun, Fits}
use Rattle.design_core.specs.Verdicts.{Point, Passes, NotWithin, HitAt}
use Rattle.bit_exprs.proofs.Performing.{length-perform}
use Rattle.design_core.proofs.Settling.{registers_put}
use Rattle.design_core.proofs.OneSettling.{alike}
use Rattle.design_core.proofs.RunLaws.{run_exists}
use Rattle.event_order.specs.States.{State}
use Rattle.event_order.specs.Cycles.{fresh, begun, clocked, Cycle, Runs}
use Rattle.event_order.specs.Registers.{registers_in}
use Rattle.event_order.specs.Verdicts.{IsMachineRun, MachineNotWithin, MachineHitAt}
use Rattle.event_order.specs.Laws.{AreInputs, AllAlike, EveryOrderSettles, EveryCycleEnds, SameVerdicts, EveryVerdictAgrees, EveryStimulusRuns}
use Rattle.event_order.specs.Ready.{IsReady}
use Rattle.event_order.proofs.Drivers.{HasOneDriver, one_driver_each}
use Rattle.event_order.proofs.Ending.{ends}
use Rattle.event_order.proofs.Settled.{begins, fresh_ready, cycle_is, runs_only}

pub every_cycle_ends : EveryCycleEnds
every_cycle_ends d order s legal flags = ends d order legal s flags

-- the point is the same for runs that are alike
abbrev pub IsOfKnown : Design → List ℕ → Point → Type 0
IsOfKnown d order point = (vs ws : List (List Bool)) (t : ℕ) → AllAlike d order vs ws → point vs t → point ws t

module _ (d : Design) (order : List ℕ) (legal : IsLegal d order) where
  one : HasOneDriver d
  one = one_driver_each d order legal

  -- settled runs are alike
  runs_alike : (lines vs ws : List (List Bool)) (held : List Bool) → IsRun d held lines vs → IsRun d held lines ws → AllAlike d order vs ws
  runs_alike [] [] [] held a b = tt
  runs_alike [] [] (w ∷ ws) held a b = absurd b
  runs_alike [] (v ∷ vs) ws held a b = absurd a
  runs_alike (line ∷ lines) [] ws held a b = absurd a
  runs_alike (line ∷ lines) (v ∷ vs) [] held a b = absurd b
  runs_alike (line ∷ lines) (v ∷ vs) (w ∷ ws) held a b =
      let here = alike d order legal held line v w a.0 b.0 in
      (here, runs_alike lines vs ws (next_of d v) a.1 (subst (λ r. IsRun d r lines ws) (sym here.next) b.1))

  -- some cycle, with what it settles at
  record SomeCycle (line : List Bool) (s : State) : Type 0 where
    values : List Bool
    end : State
    cycle : Cycle d line s values end

  some_cycle : (line : List Bool) (s : State) → IsReady d s → SomeCycle line s
  some_cycle line s ready =
      let first = ends d order legal (begun d line s) (begins d order legal one line s ready).flags in
      let m = first.1 in
      let second = ends d order legal (clocked d m) (length-map d.processes (λ (p : Process). is_clocked p.kind)) in record {
        values = m.values;
        end = second.1;
        cycle = record {
          first = first.0;
          middle = m;
          second = second.0;
          settles = first.2;
          settled = first.3;
          at = refl;
          clocks = second.2;
          ended = second.3;
        };
      }

  some_run : (lines : List (List Bool)) (s : State) → AreInputs d lines → IsReady d s → (ws : List (List Bool)) × (t : State) × Runs d s lines ws t
  some_run [] s long ready = ([], s, refl)
  some_run (line ∷ lines) s long ready =
      let here = some_cycle line s ready in
      let is_it = cycle_is d order legal one line s here.values here.end ready (All-head (λ x. length x ≡ length d.inputs) line lines long) here.cycle in
      let there = some_run lines here.end (All-tail (λ x. length x ≡ length d.inputs) line lines long) is_it.ready in
      (here.values ∷ there.0, there.1, (here.end, here.cycle, there.2))

  some_like : (start : List Bool) (lines vs : List (List Bool)) → length start ≡ length d.bits → AreInputs d lines → IsRun d (registers_in d start) lines vs →
      (ws : List (List Bool)) × (t : State) × Runs d (fresh d start) lines ws t × AllAlike d order vs ws
  some_like start lines vs wide long r =
      let found = some_run lines (fresh d start) long (fresh_ready d start wide) in
      let run = runs_only d order legal one lines found.0 (fresh d start) found.1 long (fresh_ready d start wide) found.2 in
      (found.0, found.1, found.2, runs_alike lines vs found.0 (registers_in d start) r run.0)

  -- what a stimulus gives the registers, among values of all bits
  start_of : (held : List Bool) → length held ≡ length d.registers → (start : List Bool) × (length start ≡ length d.bits) × (registers_in d start ≡ held)
  start_of held wide =
      let zeros : List Bool = replicate (length d.bits) false in
      let zeros_wide : length zeros ≡ length d.bits = length-replicate (length d.bits) false in
      let start : List Bool = perform (zip d.registers held) zeros in
      (start, length-perform (zip d.registers held) zeros ∙ zeros_wide, registers_put d held zeros start legal.registers_distinct legal.registers_within zeros_wide wide refl)

  -- a run of the machine is a settled run
  is_settled_run : (s : Stimulus) (vs : List (List Bool)) → AreInputs d s.lines → IsMachineRun d s vs → IsRun d s.start s.lines vs
  is_settled_run s vs long m =
      subst (λ held. IsRun d held s.lines vs) m.registers (runs_only d order legal one s.lines vs (fresh d m.start) m.end long (fresh_ready d m.start m.wide) m.runs).0

  -- for a settled run there is one of the machine that is alike
  machine_like : (setup : Setup) (s : Stimulus) (vs : List (List Bool)) → Fits d setup s → IsRun d s.start s.lines vs → (ws : List (List Bool)) × IsMachineRun d s ws × AllAlike d order vs ws
  machine_like setup s vs fits r =
      let start = start_of s.start fits.start.wide in
      let found = some_like start.0 s.lines vs start.1 fits.wide (subst (λ held. IsRun d held s.lines vs) (sym start.2) r) in
      (found.0, record { start = start.0; wide = start.1; registers = start.2; end = found.1; runs = found.2 }, found.3)

  pub stimulus_runs : (setup : Setup) (s : Stimulus) → Fits d setup s → (vs : List (List Bool)) × IsMachineRun d s vs
  stimulus_runs setup s fits =
      let settled = run_exists d order legal s.start s.lines fits.start.wide fits.wide in
      let found = machine_like setup s settled.0 fits settled.1 in
      (found.0, found.1)

  drop_alike : (n : ℕ) (vs ws : List (List Bool)) → AllAlike d order vs ws → AllAlike d order (drop n vs) (drop n ws)
  drop_alike zero vs ws h = h
  drop_alike (suc n) [] [] h = tt
  drop_alike (suc n) (v ∷ vs) (w ∷ ws) h = drop_alike n vs ws h.1
  drop_alike (suc n) [] (w ∷ ws) h = absurd h
  drop_alike (suc n) (v ∷ vs) [] h = absurd h

  turned : (vs ws : List (List Bool)) → AllAlike d order vs ws → AllAlike d order ws vs
  turned [] [] h = tt
  turned (v ∷ vs) (w ∷ ws) h =
      (record { values = λ b k. sym (h.0.values b k); next = sym h.0.next; hits = λ site. ((h.0.hits site).1, (h.0.hits site).0) }, turned vs ws h.1)
  turned [] (w ∷ ws) h = absurd h
  turned (v ∷ vs) [] h = absurd h

  module _ (setup : Setup) (point : Point) (known : IsOfKnown d order point) where
    within_to : (t : ℕ) → NotWithin d setup point t → MachineNotWithin d setup point t
    within_to t h s vs fits m u lt p = h s vs fits (is_settled_run s vs fits.wide m) u lt p

    within_from : (t : ℕ) → MachineNotWithin d setup point t → NotWithin d setup point t
    within_from t h s vs fits r u lt p =
        let found = machine_like setup s vs fits r in
        h s found.0 fits found.1 u lt (known (drop setup.cycles vs) (drop setup.cycles found.0) u (drop_alike setup.cycles vs found.0 found.2) p)

    hit_to : (s : Stimulus) (t : ℕ) → HitAt d setup point s t → MachineHitAt d setup point s t
    hit_to s t h = record {
      fits = h.fits;
      ends = h.ends;
      hits = λ vs m. h.hits vs (is_settled_run s vs h.fits.wide m);
      first = λ vs m. h.first vs (is_settled_run s vs h.fits.wide m);
    }

    hit_from : (s : Stimulus) (t : ℕ) → MachineHitAt d setup point s t → HitAt d setup point s t
    hit_from s t h = record {
      fits = h.fits;
      ends = h.ends;
      hits = λ vs r.
          let found = machine_like setup s vs h.fits r in
          known (drop setup.cycles found.0) (drop setup.cycles vs) t (drop_alike setup.cycles found.0 vs (turned vs found.0 found.2)) (h.hits found.0 found.1);
      first = λ vs r u lt p.
          let found = machine_like setup s vs h.fits r in
          h.first found.0 found.1 u lt (known (drop setup.cycles vs) (drop setup.cycles found.0) u (drop_alike setup.cycles vs found.0 found.2) p);
    }

    pub same_verdicts : SameVerdicts d setup point
    same_verdicts = record {
      within = λ t. (within_to t, within_from t);
      never = (λ h t. within_to t (h t), λ h t. within_from t (h t));
      hit = λ s t. (hit_to s t, hit_from s t);
    }

  alike_long : (vs ws : List (List Bool)) → AllAlike d order vs ws → length vs ≡ length ws
  alike_long [] [] h = refl
  alike_long (v ∷ vs) (w ∷ ws) h = ap suc (alike_long vs ws h.1)
  alike_long [] (w ∷ ws) h = absurd h
  alike_long (v ∷ vs) [] h = absurd h

  alike_each : (vs ws : List (List Bool)) (t : ℕ) → AllAlike d order vs ws → t < length vs → Alike d order (get_or vs t []) (get_or ws t [])
  alike_each [] [] t h lt = absurd (omega arith)
  alike_each (v ∷ vs) (w ∷ ws) zero h lt = h.0
  alike_each (v ∷ vs) (w ∷ ws) (suc t) h lt = alike_each vs ws t h.1 (omega arith)
  alike_each [] (w ∷ ws) t h lt = absurd h
  alike_each (v ∷ vs) [] t h lt = absurd h

  passes_known : (site : ℕ) → IsOfKnown d order (Passes d site)
  passes_known site vs ws t h (v, at, hit) =
      let lt : t < length vs = slice_get_within vs t v at in
      let lt' : t < length ws = subst (λ n. t < n) (alike_long vs ws h) lt in
      let is : get_or vs t [] ≡ v = get_or_from_slice_get vs t v [] at in
      (get_or ws t [], slice_get-get_or ws t [] lt', ((alike_each vs ws t h lt).hits site).0 (subst (λ x. Hit d x site) (sym is) hit))

  pub site_verdicts : (setup : Setup) (site : ℕ) → SameVerdicts d setup (Passes d site)
  site_verdicts setup site = same_verdicts setup (Passes d site) (passes_known site)

pub every_order_settles : EveryOrderSettles
every_order_settles d order start lines legal wide long =
    let only = λ (vs : List (List Bool)) (t : State) (l : Runs d (fresh d start) lines vs t). runs_only d order legal (one_driver_each d order legal) lines vs (fresh d start) t long (fresh_ready d start wide) l in record {
      only = only;
      same = λ vs ws t u a b. runs_alike d order legal lines vs ws (registers_in d start) (only vs t a).0 (only ws u b).0;
      some = λ vs r. some_like d order legal start lines vs wide long r;
    }

pub every_verdict_agrees : EveryVerdictAgrees
every_verdict_agrees d order setup site legal = site_verdicts d order legal setup site

pub every_stimulus_runs : EveryStimulusRuns
every_stimulus_runs d order setup s legal fits = stimulus_runs d order legal setup s fits
