-- A cycle of the machine is one of the settled runs.
use Rattle.std.proofs.Common.{◌≡◌, ℕ, zero, suc, get_or, arith, Bool, true, false, cond, not, ◌&&◌, ◌||◌, List, [], ◌∷◌, refl, sym, ap, ◌∙◌, subst, length, map, ◌<◌, inl, inr, true≢false}
use Rattle.std.specs.Prelude.{Contains, zip}
use Rattle.std.proofs.lemmas.Option.{slice_get_within, get_or_from_slice_get}
use Rattle.std.proofs.lemmas.List.{length-map, get_or-map, get_or_default}
use Rattle.std.proofs.lemmas.List.Elements.{All-head, All-tail}
use Rattle.std.proofs.lemmas.Bool.{or_parts, and_parts, cases_Bool, not-false}
use Rattle.design_core.specs.declared.flat.Process.{Process}
use Rattle.design_core.specs.declared.flat.Design.{Design}
use Rattle.bit_exprs.specs.Updates.{perform}
use Rattle.bit_exprs.specs.Values.{bit_at}
use Rattle.design_core.specs.Exec.{exec}
use Rattle.design_core.specs.Drive.{drives}
use Rattle.design_core.specs.Settled.{is_clocked, Settled, updated, clocked_updates, reset_updates, next_of}
use Rattle.design_core.specs.Legality.{IsLegal, idle, process_at}
use Rattle.design_core.specs.Runs.{IsRun}
use Rattle.bit_exprs.proofs.Performing.{length-perform}
use Rattle.design_core.proofs.Updates.{bit_performed}
use Rattle.design_core.proofs.Settling.{inputs_at, inputs_other, Contains-some}
use Rattle.event_order.specs.Registers.{registers_in}
use Rattle.event_order.proofs.Updates.{perform_same, one_drives, next_all}
use Rattle.event_order.proofs.Resets.{reset_clocked, is_reset_same, updates_same, updates_both, own_reset, resets_none}
use Rattle.event_order.proofs.Drivers.{HasOneDriver, only_driver}
use Rattle.event_order.specs.States.{State, Phase, Clocked, IsQuiet, some_below, raised, woken}
use Rattle.event_order.specs.Steps.{Step, Run, Update, after, Leads}
use Rattle.event_order.specs.Cycles.{fresh, flags_at, is_first, is_reset, starts, begun, clocked, Cycle, Runs}
use Rattle.event_order.specs.Ready.{IsReady}
use Rattle.event_order.specs.Laws.{AreInputs, held_after}
use Rattle.event_order.proofs.Waking.{length-woken, length-raised, raised_at, one_below, none_below}
use Rattle.event_order.proofs.Settling.{IsSettling, due, stays_stable, fits, given_input, process_in, flag_clocked, settling_leads}
use Rattle.event_order.proofs.Clocking.{clocking_begins, clocking_ends, next_due, next_kept}

-- no step changes the phase
pub phase_kept : (d : Design) (s : State) (xs : List Step) (t : State) → Leads d s xs t → s.phase ≡ t.phase
phase_kept d s [] t l = ap (λ (x : State). x.phase) l
phase_kept d s (Run k ∷ xs) t l = phase_kept d (after d s (Run k)) xs t l.1
phase_kept d s (Update ∷ xs) t l = phase_kept d (after d s Update) xs t l.1

clocked_flags : (d : Design) (s : State) → Clocked ≡ s.phase → flags_at d s ≡ s.pending
clocked_flags d s e = subst (λ (p : Phase). flags_at d (record { values = s.values; pending = s.pending; waiting = s.waiting; phase = p }) ≡ s.pending) e refl

pub fresh_ready : (d : Design) (v : List Bool) → length v ≡ length d.bits → IsReady d (fresh d v)
fresh_ready d v wide =
    let flag : (k : ℕ) → k < length d.processes → bit_at (map (λ (p : Process). not (is_clocked p.kind)) d.processes) k ≡ not (is_clocked (process_at d k).kind) =
    λ k lt. get_or-map (λ (p : Process). not (is_clocked p.kind)) d.processes k _ false lt in
    record {
      wide = wide;
      flags = length-map d.processes (λ (p : Process). not (is_clocked p.kind));
      none = refl;
      asleep = λ k lt c. flag k lt ∙ ap not c;
      stable = λ k lt comb down. let up : true ≡ false = ap not (sym comb) ∙ sym (flag k lt) ∙ down in cc;
      kept = λ first. absurd (true≢false first);
    }

-- two functions that agree on the bits of a list
map_same : {f g : ℕ → Bool} (bs : List ℕ) → ((b : ℕ) → Contains bs b → f b ≡ g b) → map f bs ≡ map g bs
map_same [] same = refl
map_same (b ∷ bs) same = λ j. same b (zero, omega arith, refl) j ∷ map_same bs (λ c inside. same c (suc inside.0, omega (arith, inside.1), inside.2)) j

-- a reset that is active and doesn't start was active before
was_active : (first : Bool) (p : Process) (v w : List Bool) → starts first p v w ≡ false → is_reset p w ≡ true → (first ≡ false) × (is_reset p v ≡ true)
was_active true p v w off on = absurd (true≢false (sym (ap (λ x. x && true) on) ∙ off))
was_active false p v w off on = (refl, not-false (is_reset p v) (sym (ap (λ x. x && not (is_reset p v)) on) ∙ off))

module _ (d : Design) (order : List ℕ) (legal : IsLegal d order) (one : HasOneDriver d) where
  -- the inputs are new, and all else is as it was
  input_kept : (i u : List Bool) (b : ℕ) → (Contains d.inputs b → ⊥) → bit_at (perform (zip d.inputs i) u) b ≡ bit_at u b
  input_kept i u b other = inputs_other d.inputs i u b (λ j at. other (Contains-some d.inputs j b at))

  register_kept : (i u : List Bool) (b : ℕ) → Contains d.registers b → bit_at (perform (zip d.inputs i) u) b ≡ bit_at u b
  register_kept i u b c = input_kept i u b (λ x. legal.apart b x c)

  pub begins : (i : List Bool) (s : State) → IsReady d s → IsSettling d (begun d i s).values (begun d i s)
  begins i s h =
      let w = perform (zip d.inputs i) s.values in
      let test = λ (p : Process). starts (is_first s.phase) p s.values w in
      let flags1 = woken d.processes s.values w (flags_at d s) in
      let flags2 = raised test d.processes flags1 in
      let long1 : length flags1 ≡ length d.processes = length-woken d.processes s.values w (flags_at d s) h.flags in
      let len : length w ≡ length s.values = length-perform (zip d.inputs i) s.values in
      let flag : (k : ℕ) → k < length d.processes → is_clocked (process_at d k).kind ≡ true → bit_at flags2 k ≡ starts (is_first s.phase) (process_at d k) s.values w = λ k lt c.
      raised_at test d.processes flags1 k idle long1 lt
      ∙ ap (λ f. f || starts (is_first s.phase) (process_at d k) s.values w) (flag_clocked d order legal s.values w (flags_at d s) k h.flags lt c ∙ h.asleep k lt c) in
      let now : (b : ℕ) → bit_at (perform s.waiting w) b ≡ bit_at w b = λ b. ap (λ us. bit_at (perform us w) b) h.none in
      record {
        wide = len ∙ h.wide;
        long = len ∙ h.wide;
        flags = length-raised test d.processes flags1 long1;
        same = λ b c. refl;
        asked = λ k lt c up. (and_parts (is_reset (process_at d k) w) (is_first s.phase || not (is_reset (process_at d k) s.values)) (sym (flag k lt c) ∙ up)).0;
        ran = λ k b lt c x. now b ∙ begin_due i s h k b lt x flags2 (λ down on. was_active (is_first s.phase) (process_at d k) s.values w (sym (flag k lt c) ∙ down) on);
        rest = λ b c free. now b;
        own = λ u b other. ap (λ us. bit_at (perform us u) b) h.none;
        stable = λ k lt comb down. stays_stable d order legal s.values w (flags_at d s) k len h.flags lt comb
            (or_parts (bit_at flags1 k) (starts (is_first s.phase) (process_at d k) s.values w) (sym (raised_at test d.processes flags1 k idle long1 lt) ∙ down)).0
            (λ b x. sym (input_kept i s.values b (λ c. true≢false (sym x ∙ (fits d order legal k lt comb).free b (given_input d order legal b c)))))
            h.stable;
      }
    where
      begin_due : (i : List Bool) (s : State) → IsReady d s → (k b : ℕ) → k < length d.processes → drives (process_at d k).body b ≡ true → (flags : List Bool) →
          (bit_at flags k ≡ false → is_reset (process_at d k) (perform (zip d.inputs i) s.values) ≡ true → (is_first s.phase ≡ false) × (is_reset (process_at d k) s.values ≡ true)) →
          bit_at (perform (zip d.inputs i) s.values) b ≡ bit_at (perform (due d k (perform (zip d.inputs i) s.values) flags) (perform (zip d.inputs i) s.values)) b
      begin_due i s h k b lt x flags was = elim (cases_Bool (is_reset (process_at d k) (perform (zip d.inputs i) s.values))) [
        | inr off ↦ rw off refl
        | inl on ↦ elim (cases_Bool (bit_at flags k)) [
          | inl up ↦ rw (on, up) refl
          | inr down ↦
              let w = perform (zip d.inputs i) s.values in
              let before = was down on in
              let c : is_clocked (process_at d k).kind ≡ true = reset_clocked (process_at d k).kind w on in
              let us : (exec (process_at d k).body w).updates ≡ (exec (process_at d k).body s.values).updates =
              updates_both d legal.resets (process_at d k) w s.values (process_in d order legal k lt) on before.1 in
              let kept : bit_at w b ≡ bit_at s.values b = register_kept i s.values b (one.registers k b lt c x) in
              let all : bit_at (perform (exec (process_at d k).body w).updates w) b ≡ bit_at w b =
              ap (λ z. bit_at (perform z w) b) us
              ∙ perform_same (exec (process_at d k).body s.values).updates w s.values b (length-perform (zip d.inputs i) s.values) kept
              ∙ h.kept before.0 k b lt before.1 x ∙ sym kept in
              rw (on, down) (sym all)
        ]
      ]

  -- at a quiet state the registers are what the active resets give, and else those of the base
  quiet_register : (base : List Bool) (m : State) → IsSettling d base m → IsQuiet m → (r : List Bool) → length r ≡ length d.bits → ((b : ℕ) → Contains d.registers b → bit_at base b ≡ bit_at r b) →
      (b : ℕ) → Contains d.registers b → bit_at m.values b ≡ bit_at (perform (reset_updates d.processes m.values) r) b
  quiet_register base m h quiet r wide same b c =
      let now : bit_at (perform m.waiting m.values) b ≡ bit_at m.values b = ap (λ us. bit_at (perform us m.values) b) quiet.done in
      elim (cases_Bool (some_below (length d.processes) (λ k. (is_clocked (process_at d k).kind) && drives (process_at d k).body b))) [
        | inl e ↦
            let found = one_below (length d.processes) (λ k. (is_clocked (process_at d k).kind) && drives (process_at d k).body b) e in
            let both = and_parts (is_clocked (process_at d found.0).kind) (drives (process_at d found.0).body b) found.2 in
            sym now ∙ h.ran found.0 b found.1 both.0 both.1
            ∙ ap (λ us. bit_at (perform us base) b) (due_is found.0 found.1)
            ∙ perform_same (cond (is_reset (process_at d found.0) m.values) (exec (process_at d found.0).body m.values).updates []) base r b (h.long ∙ sym wide) (same b c)
            ∙ sym (one_drives (λ (p : Process). cond (is_reset p m.values) (exec p.body m.values).updates []) (own_reset m.values) d.processes r found.0 b idle found.1
            (λ j lj ne. only_driver d one j found.0 b lj found.1 both.1 ne))
        | inr e ↦
            let none = none_below (length d.processes) (λ k. (is_clocked (process_at d k).kind) && drives (process_at d k).body b) e in
            let free : (k : ℕ) → k < length d.processes → is_clocked (process_at d k).kind ≡ true → drives (process_at d k).body b ≡ false = λ k lt x. sym (ap (λ y. y && drives (process_at d k).body b) x) ∙ none k lt in
            sym now ∙ h.rest b c free ∙ same b c ∙ sym (resets_none d.processes m.values r b free)
      ]
    where
      due_is : (k : ℕ) → k < length d.processes → due d k base m.pending ≡ cond (is_reset (process_at d k) m.values) (exec (process_at d k).body m.values).updates []
      due_is k lt =
          let at = is_reset_same d legal.resets (process_at d k) m.values base (process_in d order legal k lt) h.same in
          elim (cases_Bool (is_reset (process_at d k) m.values)) [
            | inl on ↦ let on' : is_reset (process_at d k) base ≡ true = sym at ∙ on in
                rw (on, on', quiet.idle k) (sym (updates_same d legal.resets (process_at d k) m.values base (process_in d order legal k lt) h.same on))
            | inr off ↦ let off' : is_reset (process_at d k) base ≡ false = sym at ∙ off in rw (off, off') refl
          ]

  pub settles_at : (i : List Bool) (s m : State) → length s.values ≡ length d.bits → length i ≡ length d.inputs → IsSettling d (perform (zip d.inputs i) s.values) m → IsQuiet m →
      Settled d (registers_in d s.values) i m.values
  settles_at i s m wide long h quiet = record {
    wide = h.wide;
    held_wide = length-map d.registers (bit_at s.values);
    inputs_wide = long;
    given = λ k b at. h.same b (Contains-some d.inputs k b at)
        ∙ inputs_at d.inputs i s.values k b legal.inputs_distinct (λ j e lt. rw wide (legal.inputs_within j e lt)) long at;
    registers = λ k b at.
        let lt : k < length d.registers = slice_get_within d.registers k b at in
        let is : get_or d.registers k 0 ≡ b = get_or_from_slice_get d.registers k b 0 at in
        let within : b < length s.values = rw wide (subst (λ x. x < length d.bits) is (legal.registers_within k 0 lt)) in
        let here : bit_at (registers_in d s.values) k ≡ bit_at s.values b = get_or-map (bit_at s.values) d.registers k 0 false lt ∙ ap (bit_at s.values) is in
        quiet_register (perform (zip d.inputs i) s.values) m h quiet s.values wide (register_kept i s.values) b (Contains-some d.registers k b at)
        ∙ bit_performed (reset_updates d.processes m.values) s.values b within ∙ ap (updated (reset_updates d.processes m.values) b) (sym here);
    stable = λ p c comb.
        let is : process_at d c.0 ≡ p = get_or_default d.processes c.0 _ p c.1 ∙ c.2 in
        subst (λ (q : Process). (exec q.body m.values).values ≡ m.values) is (h.stable c.0 c.1 (ap (λ (q : Process). is_clocked q.kind) is ∙ comb) (quiet.idle c.0));
  }

  -- at the end of a cycle the registers are the next ones
  end_register : (v : List Bool) (t : State) → IsSettling d (next_all d v) t → IsQuiet t → (b : ℕ) → Contains d.registers b → bit_at t.values b ≡ bit_at (next_all d v) b
  end_register v t h quiet b c =
      let now : bit_at (perform t.waiting t.values) b ≡ bit_at t.values b = ap (λ us. bit_at (perform us t.values) b) quiet.done in
      elim (cases_Bool (some_below (length d.processes) (λ k. (is_clocked (process_at d k).kind) && drives (process_at d k).body b))) [
        | inl e ↦
            let found = one_below (length d.processes) (λ k. (is_clocked (process_at d k).kind) && drives (process_at d k).body b) e in
            let both = and_parts (is_clocked (process_at d found.0).kind) (drives (process_at d found.0).body b) found.2 in
            sym now ∙ h.ran found.0 b found.1 both.0 both.1 ∙ sym (next_due d order legal one v t.pending found.0 b found.1 both.1)
        | inr e ↦
            let none = none_below (length d.processes) (λ k. (is_clocked (process_at d k).kind) && drives (process_at d k).body b) e in
            sym now ∙ h.rest b c (λ k lt x. sym (ap (λ y. y && drives (process_at d k).body b) x) ∙ none k lt)
      ]

  end_kept : (v : List Bool) (t : State) → IsSettling d (next_all d v) t → IsQuiet t → (k b : ℕ) → k < length d.processes → is_reset (process_at d k) t.values ≡ true → drives (process_at d k).body b ≡ true →
      bit_at (perform (exec (process_at d k).body t.values).updates t.values) b ≡ bit_at t.values b
  end_kept v t h quiet k b lt on x =
      let c : is_clocked (process_at d k).kind ≡ true = reset_clocked (process_at d k).kind t.values on in
      let same : bit_at t.values b ≡ bit_at (next_all d v) b = end_register v t h quiet b (one.registers k b lt c x) in
      let us : (exec (process_at d k).body t.values).updates ≡ (exec (process_at d k).body (next_all d v)).updates =
      updates_same d legal.resets (process_at d k) t.values (next_all d v) (process_in d order legal k lt) h.same on in
      let on' : is_reset (process_at d k) (next_all d v) ≡ true = sym (is_reset_same d legal.resets (process_at d k) t.values (next_all d v) (process_in d order legal k lt) h.same) ∙ on in
      ap (λ z. bit_at (perform z t.values) b) us
      ∙ perform_same (exec (process_at d k).body (next_all d v)).updates t.values (next_all d v) b (h.wide ∙ sym h.long) same
      ∙ next_kept d order legal one v k b lt on' x ∙ sym same

  -- the registers at the end of a cycle
  end_registers : (v : List Bool) (t : State) → length v ≡ length d.bits → IsSettling d (next_all d v) t → IsQuiet t → registers_in d t.values ≡ next_of d v
  end_registers v t wide h quiet = map_same {f = bit_at t.values} {g = λ b. updated (clocked_updates d.processes v) b (bit_at v b)} d.registers (λ b c.
      let within : b < length v = rw wide (subst (λ x. x < length d.bits) c.2 (legal.registers_within c.0 _ c.1)) in
      end_register v t h quiet b c ∙ bit_performed (clocked_updates d.processes v) v b within)

  -- what a cycle does, in whichever order
  pub record CycleIs (i : List Bool) (s : State) (v : List Bool) (t : State) : Type 0 where
    pub settled : Settled d (registers_in d s.values) i v
    pub registers : registers_in d t.values ≡ next_of d v
    pub ready : IsReady d t

  pub cycle_is : (i : List Bool) (s : State) (v : List Bool) (t : State) → IsReady d s → length i ≡ length d.inputs → Cycle d i s v t → CycleIs i s v t
  cycle_is i s v t ready long c =
      let m = c.middle in
      let settling = settling_leads d order legal one (begun d i s).values (begun d i s) c.first m c.settles (begins i s ready) in
      let settled : Settled d (registers_in d s.values) i v = subst (Settled d (registers_in d s.values) i) c.at (settles_at i s m ready.wide long settling c.settled) in
      let left : (k : ℕ) → k < length d.processes → is_clocked (process_at d k).kind ≡ false → (exec (process_at d k).body v).values ≡ v =
      λ k lt comb. settled.stable (process_at d k) (k, lt, get_or_default d.processes k _ _ lt) comb in
      let clocking = clocking_begins d order legal one v settled.wide left m c.at c.settled.done in
      let end = clocking_ends d order legal one v settled.wide left (clocked d m) c.second t c.clocks clocking c.ended in
      let flags : flags_at d t ≡ t.pending = clocked_flags d t (phase_kept d (clocked d m) c.second t c.clocks) in
      record {
        settled = settled;
        registers = end_registers v t settled.wide end c.ended;
        ready = record {
          wide = end.wide;
          flags = ap (λ fs. length fs) flags ∙ end.flags;
          none = c.ended.done;
          asleep = λ k lt x. ap (λ fs. bit_at fs k) flags ∙ c.ended.idle k;
          stable = λ k lt comb down. end.stable k lt comb (c.ended.idle k);
          kept = λ first. end_kept v t end c.ended;
        };
      }

  -- and so a run
  pub runs_only : (lines vs : List (List Bool)) (s t : State) → AreInputs d lines → IsReady d s → Runs d s lines vs t →
      IsRun d (registers_in d s.values) lines vs × (registers_in d t.values ≡ held_after d (registers_in d s.values) vs)
  runs_only [] [] s t long ready l = (tt, ap (λ (x : State). registers_in d x.values) (sym l))
  runs_only (i ∷ lines) (v ∷ vs) s t long ready l =
      let u = l.0 in
      let here = cycle_is i s v u ready (All-head (λ x. length x ≡ length d.inputs) i lines long) l.1 in
      let there = runs_only lines vs u t (All-tail (λ x. length x ≡ length d.inputs) i lines long) here.ready l.2 in (
        (here.settled, subst (λ held. IsRun d held lines vs) here.registers there.0),
        there.1 ∙ ap (λ held. held_after d held vs) here.registers,
      )
  runs_only [] (v ∷ vs) s t long ready l = absurd l
  runs_only (i ∷ lines) [] s t long ready l = absurd l
