-- Whole runs and whole walks.
use Rattle.std.proofs.Common.{◌≡◌, ◌↔◌, ℕ, zero, suc, ◌<◌, Bool, true, List, [], ◌∷◌, length, take, drop, get_or, Some, None, refl, sym, ap, subst, ◌∙◌, arith}
use Rattle.std.specs.Prelude.{slice_get}
use Rattle.std.proofs.lemmas.List.{length-map, get_or-map}
use Rattle.std.proofs.lemmas.List.Elements.{All-weaker}
use Rattle.std.proofs.lemmas.Option.{slice_get_within, slice_get-get_or, get_or_from_slice_get}
use Rattle.design_core.specs.declared.flat.BitInfo.{BitInfo}
use Rattle.design_core.specs.declared.flat.Design.{Design}
use Rattle.design_core.specs.declared.setup.Setup.{Setup}
use Rattle.design_core.specs.declared.setup.Stimulus.{Stimulus}
use Rattle.design_core.specs.Settled.{Settled, Hit, next_of}
use Rattle.design_core.specs.Legality.{IsLegal}
use Rattle.design_core.specs.Runs.{MayStart, IsRun, Fits}
use Rattle.design_core.specs.Verdicts.{Passes}
use Rattle.design_core.proofs.RunLaws.{run_exists}
use Rattle.bit_system.specs.declared.system.StateInfo.{StateInfo}
use Rattle.bit_system.specs.Machine.{Machine, IsInput, IsStart, IsWalk, HitsAt, value_in_step, state_after, hit_literal}
use Rattle.plain_blast.specs.Plain.{nameless, state_of, plain_of}
use Rattle.plain_blast.specs.Bridge.{Follows, Bridge}
use Rattle.plain_blast.proofs.Cycle.{follows_next, follows_hits, input_count, states_are}

module _ (d : Design) (order : List ℕ) (legal : IsLegal d order) (sites : List ℕ) where
  abbrev m : Machine
  m = plain_of d order sites

  -- ---- starts

  state_count : length m.states ≡ length d.registers
  state_count = ap length (states_are d order sites) ∙ length-map d.registers (state_of d.bits)

  -- the state bit of a register
  state_at : (k b : ℕ) (e : StateInfo) (info : BitInfo) → slice_get d.registers k ≡ Some b → slice_get d.bits b ≡ Some info → (get_or m.states k e).start ≡ info.start
  state_at k b e info at is =
      ap (λ (ss : List StateInfo). (get_or ss k e).start) (states_are d order sites)
      ∙ ap (λ (x : StateInfo). x.start) (get_or-map (state_of d.bits) d.registers k 0 e (slice_get_within d.registers k b at))
      ∙ ap (λ c. (get_or d.bits c nameless).start) (get_or_from_slice_get d.registers k b 0 at)
      ∙ ap (λ (x : BitInfo). x.start) (get_or_from_slice_get d.bits b info nameless is)

  may_start : (held : List Bool) → MayStart d held → IsStart m held
  may_start held may = record {
    is_state = may.wide ∙ sym state_count;
    agrees = λ k x e lt is.
        let lt' : k < length d.registers = rw state_count at lt in
        let b : ℕ = get_or d.registers k 0 in
        let at : slice_get d.registers k ≡ Some b = slice_get-get_or d.registers k 0 lt' in
        let info : BitInfo = get_or d.bits b nameless in
        let known : slice_get d.bits b ≡ Some info = slice_get-get_or d.bits b nameless (legal.registers_within k 0 lt') in
        may.agrees k b info x at known (sym (state_at k b e info at known) ∙ is);
  }

  must_start : (held : List Bool) → IsStart m held → MayStart d held
  must_start held starts = record {
    wide = starts.is_state ∙ state_count;
    agrees = λ k b info x at known is.
        let e : StateInfo = record { name = []; start = None } in
        starts.agrees k x e (rw state_count (slice_get_within d.registers k b at)) (state_at k b e info at known ∙ is);
  }

  follows : Follows d sites m
  follows = record {
    starts = λ held. (may_start held, must_start held);
    next = λ held line v s. follows_next d order legal sites held line v s;
    hits = λ held line v s k site at. follows_hits d order legal sites held line v s k site at;
  }

  -- ---- walks and runs

  -- one step on
  later : (k : ℕ) (held line v : List Bool) (lines : List (List Bool)) (t : ℕ) → Settled d held line v → HitsAt m k held (line ∷ lines) (suc t) ↔ HitsAt m k (next_of d v) lines t
  later k held line v lines t s =
      let step = follows_next d order legal sites held line v s in (
        λ h. record { within = omega (arith, h.within); hit = subst (λ st. value_in_step m (state_after m st (take t lines)) (get_or lines t []) (hit_literal m k) ≡ true) step h.hit },
        λ h. record { within = omega (arith, h.within); hit = subst (λ st. value_in_step m (state_after m st (take t lines)) (get_or lines t []) (hit_literal m k) ≡ true) (sym step) h.hit },
      )

  -- a walk hits the point where the run hits the site
  alike : (k site : ℕ) → slice_get sites k ≡ Some site → (held : List Bool) (lines vs : List (List Bool)) → IsRun d held lines vs → (t : ℕ) → HitsAt m k held lines t ↔ Passes d site vs t
  alike k site at held [] [] r t = (λ h. absurd (omega (arith, h.within)), λ (v, e, h). cc)
  alike k site at held [] (v ∷ vs) r t = absurd r
  alike k site at held (line ∷ lines) [] r t = absurd r
  alike k site at held (line ∷ lines) (v ∷ vs) r zero =
      let here = follows_hits d order legal sites held line v r.0 k site at in (
        λ h. (v, refl, here.0 h.hit),
        λ (w, e, h). let same : v ≡ w = cc in record { within = omega arith; hit = here.1 (subst (λ x. Hit d x site) (sym same) h) },
      )
  alike k site at held (line ∷ lines) (v ∷ vs) r (suc t) =
      let step = later k held line v lines t r.0 in
      let rest = alike k site at (next_of d v) lines vs r.1 t in
      (λ h. rest.0 (step.0 h), λ h. step.1 (rest.1 h))

  walk_of : (setup : Setup) (s : Stimulus) → Fits d setup s → IsWalk m s.start s.lines
  walk_of setup s fits = record {
    starts = may_start s.start fits.start;
    each_input = All-weaker (λ (line : List Bool). length line ≡ length d.inputs) (IsInput m) (λ line wide. wide ∙ sym (input_count d order legal sites)) s.lines fits.wide;
  }

  -- every step of a walk is one of a run
  run_of : (start : List Bool) (lines : List (List Bool)) → IsWalk m start lines → (vs : List (List Bool)) × IsRun d start lines vs
  run_of start lines walk =
      run_exists d order legal start lines (walk.starts.is_state ∙ state_count)
      (All-weaker (IsInput m) (λ (line : List Bool). length line ≡ length d.inputs) (λ line wide. wide ∙ input_count d order legal sites) lines walk.each_input)

  stimulus_of : (setup : Setup) → setup.cycles ≡ 0 → (start : List Bool) (lines : List (List Bool)) → IsWalk m start lines → Fits d setup (record { start = start; lines = lines })
  stimulus_of setup none start lines walk = record {
    start = must_start start walk.starts;
    wide = All-weaker (IsInput m) (λ (line : List Bool). length line ≡ length d.inputs) (λ line wide. wide ∙ input_count d order legal sites) lines walk.each_input;
    held = λ k line lt at. absurd (omega (arith, lt, none));
  }

  -- no walk hits the point in a step with P, exactly where no run hits the site in a cycle with P
  both : (P : ℕ → Type 0) (setup : Setup) (k site : ℕ) → setup.cycles ≡ 0 → slice_get sites k ≡ Some site →
      ((start : List Bool) (inputs : List (List Bool)) (t : ℕ) → IsWalk m start inputs → P t → HitsAt m k start inputs t → ⊥)
      ↔ ((s : Stimulus) (vs : List (List Bool)) → Fits d setup s → IsRun d s.start s.lines vs → (u : ℕ) → P u → Passes d site (drop setup.cycles vs) u → ⊥)
  both P setup k site none at = (
    λ h s vs fits r u p hit. h s.start s.lines u (walk_of setup s fits) p ((alike k site at s.start s.lines vs r u).1 (subst (λ c. Passes d site (drop c vs) u) none hit)),
    λ h start inputs t walk p hits.
        let found = run_of start inputs walk in
        h (record { start = start; lines = inputs }) found.0 (stimulus_of setup none start inputs walk) found.1 t p
        (subst (λ c. Passes d site (drop c found.0) t) (sym none) ((alike k site at start inputs found.0 found.1 t).0 hits)),
  )

  pub bridge : Bridge d sites m
  bridge = record {
    cycle = follows;
    never = λ setup k site none at. let all = both (λ t. Unit {0}) setup k site none at in (
      λ h t s vs fits r u lt hit. all.0 (λ start inputs t walk p hits. h start inputs t walk hits) s vs fits r u tt hit,
      λ h start inputs t walk hits. all.1 (λ s vs fits r u p hit. h (suc u) s vs fits r u (omega arith) hit) start inputs t walk tt hits,
    );
    within = λ setup k site n none at. both (λ t. t < n) setup k site none at;
  }
