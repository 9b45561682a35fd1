-- Steps of clocked processes, after the clock's edge.
use Rattle.std.proofs.Common.{◌≡◌, ℕ, Bool, true, false, List, [], ◌∷◌, ◌++◌, refl, sym, ap, ◌∙◌, subst, set, length, map, ◌<◌, ◌≢◌, inl, inr, true≢false}
use Rattle.std.specs.Prelude.{Contains}
use Rattle.std.proofs.lemmas.List.{length-set, length-map, get_or-map}
use Rattle.std.proofs.lemmas.Bool.{cases_Bool}
use Rattle.design_core.specs.declared.flat.Process.{Process}
use Rattle.design_core.specs.declared.flat.Design.{Design}
use Rattle.bit_exprs.specs.Updates.{perform}
use Rattle.bit_exprs.specs.Values.{bit_at}
use Rattle.design_core.specs.Exec.{exec}
use Rattle.design_core.specs.Drive.{drives}
use Rattle.design_core.specs.Settled.{is_clocked, clocked_updates}
use Rattle.design_core.specs.Legality.{IsLegal, idle, process_at}
use Rattle.bit_exprs.proofs.Performing.{length-perform}
use Rattle.design_core.proofs.ResetLaws.{SameInputs}
use Rattle.event_order.specs.Cycles.{clocked, is_reset}
use Rattle.event_order.proofs.Updates.{perform_twice, next_all, aside_clocked, aside_unclocked}
use Rattle.event_order.proofs.Resets.{reset_clocked, updates_same}
use Rattle.event_order.proofs.Drivers.{HasOneDriver, unclocked, only_driver}
use Rattle.event_order.specs.States.{State, IsQuiet, woken}
use Rattle.event_order.specs.Ready.{Stable}
use Rattle.event_order.specs.Steps.{Step, Run, Update, MayTake, ran, updated, Leads}
use Rattle.event_order.proofs.Waking.{length-woken}
use Rattle.event_order.proofs.Waiting.{Aside, aside_more, aside_all, aside_none, put_aside_one, put_aside_free}
use Rattle.event_order.proofs.Settling.{IsSettling, due, stays_stable, settling_leads, flag_own, flag_other, flag_clocked, process_in, ran_clocked, ran_clocked_is, woken_same, assigns_as}

-- what every step until the updates keeps: the values are v, only clocked processes are pending, and the updates of the others wait
pub record IsClocking (d : Design) (v : List Bool) (s : State) : Type 0 where
  pub values : s.values ≡ v
  pub flags : length s.pending ≡ length d.processes
  pub calm : (k : ℕ) → k < length d.processes → is_clocked (process_at d k).kind ≡ false → bit_at s.pending k ≡ false
  pub waiting : Aside d v s.pending s.waiting

module _ (d : Design) (order : List ℕ) (legal : IsLegal d order) (one : HasOneDriver d) where
  clocking_ran : (k : ℕ) (s : State) → k < length d.processes → bit_at s.pending k ≡ true → is_clocked (process_at d k).kind ≡ true →
      IsClocking d s.values s → IsClocking d s.values (ran_clocked d k s)
  clocking_ran k s lt up c h =
      let flags' = set (woken d.processes s.values s.values s.pending) k false in
      let others : (j : ℕ) → j < length d.processes → j ≢ k → bit_at flags' j ≡ bit_at s.pending j = λ j lj ne.
      flag_other d.processes s.values s.values s.pending k j ne ∙ woken_same d.processes s.values s.pending j (process_at d j) h.flags lj in
      record {
        values = refl;
        flags = length-set (woken d.processes s.values s.values s.pending) k false ∙ length-woken d.processes s.values s.values s.pending h.flags;
        calm = λ j lj comb. others j lj (λ e. true≢false (sym c ∙ ap (λ i. is_clocked (process_at d i).kind) (sym e) ∙ comb)) ∙ h.calm j lj comb;
        waiting = subst (λ us. Aside d s.values flags' (s.waiting ++ us)) (aside_clocked (process_at d k) s.values c)
            (aside_more d one s.values s.pending flags' s.waiting k lt up (flag_own d.processes s.values s.values s.pending k h.flags lt) others h.waiting);
      }

  -- each bit that no clocked process drives is as before
  next_other : (v : List Bool) (b : ℕ) → (Contains d.registers b → ⊥) → bit_at (next_all d v) b ≡ bit_at v b
  next_other v b other = put_aside_free d.processes v v b idle (λ j lt c. unclocked d one b other j lt c)

  next_same : (v : List Bool) → SameInputs d (next_all d v) v
  next_same v b c = next_other v b (λ r. legal.apart b c r)

  next_wide : (v : List Bool) → length (next_all d v) ≡ length v
  next_wide v = length-perform (clocked_updates d.processes v) v

  -- where a reset is active, its registers have what it gives
  pub next_kept : (v : List Bool) (k b : ℕ) → k < length d.processes → is_reset (process_at d k) (next_all d v) ≡ true → drives (process_at d k).body b ≡ true →
      bit_at (perform (exec (process_at d k).body (next_all d v)).updates (next_all d v)) b ≡ bit_at (next_all d v) b
  next_kept v k b lt on x =
      let c : is_clocked (process_at d k).kind ≡ true = reset_clocked (process_at d k).kind (next_all d v) on in
      let us : (exec (process_at d k).body (next_all d v)).updates ≡ (exec (process_at d k).body v).updates =
      updates_same d legal.resets (process_at d k) (next_all d v) v (process_in d order legal k lt) (next_same v) on in
      let is : bit_at (next_all d v) b ≡ bit_at (perform (exec (process_at d k).body v).updates v) b =
      put_aside_one d.processes v v k b idle lt (λ j lj ne. only_driver d one j k b lj lt x ne)
      ∙ ap (λ us. bit_at (perform us v) b) (aside_clocked (process_at d k) v c) in
      ap (λ z. bit_at (perform z (next_all d v)) b) us
      ∙ perform_twice (exec (process_at d k).body v).updates v (next_all d v) b (next_wide v) is

  pub next_due : (v flags : List Bool) (k b : ℕ) → k < length d.processes → drives (process_at d k).body b ≡ true → bit_at (next_all d v) b ≡ bit_at (perform (due d k (next_all d v) flags) (next_all d v)) b
  next_due v flags k b lt x = elim (cases_Bool (is_reset (process_at d k) (next_all d v))) [
    | inl on ↦ elim (cases_Bool (bit_at flags k)) [
      | inl up ↦ rw (on, up) refl
      | inr down ↦ rw (on, down) (sym (next_kept v k b lt on x))
    ]
    | inr off ↦ rw off refl
  ]

  -- a state with the next values, where idle waits and no clocked process is pending
  settled_next : (v : List Bool) (s : State) → length v ≡ length d.bits → s.values ≡ next_all d v → length s.pending ≡ length d.processes → s.waiting ≡ [] →
      ((k : ℕ) → k < length d.processes → is_clocked (process_at d k).kind ≡ true → bit_at s.pending k ≡ false) → Stable d s.pending s.values → IsSettling d (next_all d v) s
  settled_next v s wide e flags none calm stable =
      let now : (b : ℕ) → bit_at (perform s.waiting s.values) b ≡ bit_at (next_all d v) b = λ b. ap (λ us. bit_at (perform us s.values) b) none ∙ ap (λ u. bit_at u b) e in
      record {
        wide = ap (λ u. length u) e ∙ next_wide v ∙ wide;
        long = next_wide v ∙ wide;
        flags = flags;
        same = λ b c. ap (λ u. bit_at u b) e;
        asked = λ k lt c up. absurd (true≢false (sym up ∙ calm k lt c));
        ran = λ k b lt c x. now b ∙ next_due v s.pending k b lt x;
        rest = λ b c free. now b;
        own = λ w b other. ap (λ us. bit_at (perform us w) b) none;
        stable = stable;
      }

  clocking_updated : (s : State) → length s.values ≡ length d.bits → ((k : ℕ) → bit_at s.pending k ≡ false) →
      ((k : ℕ) → k < length d.processes → is_clocked (process_at d k).kind ≡ false → (exec (process_at d k).body s.values).values ≡ s.values) →
      IsClocking d s.values s → IsSettling d (next_all d s.values) (updated d s)
  clocking_updated s wide idle left h =
      let w = perform s.waiting s.values in
      let e : w ≡ next_all d s.values = aside_all d one s.values s.pending s.waiting idle h.waiting in
      let len : length w ≡ length s.values = length-perform s.waiting s.values in
      settled_next s.values (updated d s) wide e (length-woken d.processes s.values w s.pending h.flags) refl
      (λ k lt c. flag_clocked d order legal s.values w s.pending k h.flags lt c ∙ idle k)
      (λ k lt comb down. stays_stable d order legal s.values w s.pending k len h.flags lt comb down
      (λ b x. sym (h.waiting.ran k b lt (idle k) x ∙ ap (λ us. bit_at (perform us s.values) b) (aside_unclocked (process_at d k) s.values comb)))
      (λ j lj cj dj. left j lj cj))

  -- the values at which the cycle settled
  module _ (v : List Bool) (wide : length v ≡ length d.bits)
      (left : (k : ℕ) → k < length d.processes → is_clocked (process_at d k).kind ≡ false → (exec (process_at d k).body v).values ≡ v) where
    clocking_run : (k : ℕ) (s : State) → MayTake d s (Run k) → IsClocking d v s → IsClocking d v (ran d k s)
    clocking_run k s may h = elim (cases_Bool (is_clocked (process_at d k).kind)) [
      | inl c ↦
          let h' = subst (λ u. IsClocking d u s) (sym h.values) h in
          subst (λ u. IsClocking d u (ran d k s)) h.values (subst (IsClocking d s.values) (sym (ran_clocked_is d k s (assigns_as d order legal k true may.0 c))) (clocking_ran k s may.0 may.1 c h'))
      | inr c ↦ absurd (true≢false (sym may.1 ∙ h.calm k may.0 c))
    ]

    clocking_update : (s : State) → MayTake d s Update → IsClocking d v s → IsSettling d (next_all d v) (updated d s)
    clocking_update s may h =
        subst (λ u. IsSettling d (next_all d u) (updated d s)) h.values
        (clocking_updated s (ap (λ u. length u) h.values ∙ wide) may.0
        (λ k lt comb. rw h.values (left k lt comb))
        (subst (λ u. IsClocking d u s) (sym h.values) h))

    pub clocking_ends : (s : State) (xs : List Step) (t : State) → Leads d s xs t → IsClocking d v s → IsQuiet t → IsSettling d (next_all d v) t
    clocking_ends s [] t l h quiet =
        let h' : IsClocking d v t = subst (IsClocking d v) l h in
        let e : v ≡ next_all d v = aside_all d one v t.pending [] quiet.idle (subst (Aside d v t.pending) quiet.done h'.waiting) in
        settled_next v t wide (h'.values ∙ e) h'.flags quiet.done (λ k lt c. quiet.idle k) (λ k lt comb down. rw h'.values (left k lt comb))
    clocking_ends s (Run k ∷ xs) t l h quiet = clocking_ends (ran d k s) xs t l.1 (clocking_run k s l.0 h) quiet
    clocking_ends s (Update ∷ xs) t l h quiet = settling_leads d order legal one (next_all d v) (updated d s) xs t l.1 (clocking_update s l.0 h)

    pub clocking_begins : (m : State) → m.values ≡ v → m.waiting ≡ [] → IsClocking d v (clocked d m)
    clocking_begins m same none =
        let flag : (k : ℕ) → k < length d.processes → bit_at (map (λ (p : Process). is_clocked p.kind) d.processes) k ≡ (is_clocked (process_at d k).kind) =
        λ k lt. get_or-map (λ (p : Process). is_clocked p.kind) d.processes k _ false lt in
        record {
          values = same;
          flags = length-map d.processes (λ (p : Process). is_clocked p.kind);
          calm = λ k lt comb. flag k lt ∙ comb;
          waiting = subst (Aside d v (map (λ (p : Process). is_clocked p.kind) d.processes)) (sym none)
              (aside_none d one v (map (λ (p : Process). is_clocked p.kind) d.processes) (λ k lt down. sym (flag k lt) ∙ down));
        }
