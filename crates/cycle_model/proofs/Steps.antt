-- One step of each phase.
use Rattle.std.proofs.Common.{◌≡◌, ℕ, Bool, true, false, cond, List, [], ◌∷◌, refl, sym, ap, ◌∙◌, subst, get_or, set, drop, length, ◌<◌, ◌≤◌, ◌+◌, arith}
use Rattle.std.specs.Prelude.{zip, All, Contains, IfSome, Option, Some, None}
use Rattle.std.proofs.lemmas.List.{at_drop_more, drop_all, get_or_default, length-map, get_or-map}
use Rattle.std.proofs.lemmas.Slice.Zip.{get_or-zip, length-zip}
use Rattle.design_core.specs.declared.flat.Process.{Process}
use Rattle.design_core.specs.declared.flat.ProcKind.{ProcKind}
use Rattle.design_core.specs.declared.flat.ProcKind.TheVariants.{Comb, Clocked}
use Rattle.design_core.specs.declared.flat.Reset.{Reset}
use Rattle.design_core.specs.declared.flat.Design.{Design}
use Rattle.bit_exprs.specs.Updates.{perform}
use Rattle.design_core.specs.Exec.{exec}
use Rattle.design_core.specs.Bounds.{AssignsBy}
use Rattle.design_core.specs.Settled.{is_clocked, reset_of, updates_where}
use Rattle.design_core.specs.Legality.{idle, process_at, bodies, IsLegal}
use Rattle.design_core.proofs.Effects.{waits}
use Rattle.bit_exprs.proofs.Performing.{perform-append}
use Rattle.design_core.proofs.ResetLaws.{all_in}
use Rattle.cycle_model.specs.declared.phases.Trigger.{Trigger}
use Rattle.cycle_model.specs.declared.phases.Trigger.TheVariants.{Resets, ClockEdge}
use Rattle.cycle_model.specs.Flags.{flagged}
use Rattle.cycle_model.specs.Clocking.{is_triggered, runs, marks_where, CanRun}
use Rattle.cycle_model.proofs.Blocks.{flagged-append}

pub put_more : (bits : List ℕ) (inputs v total : List Bool) (k : ℕ) → k < length bits → length inputs ≡ length bits →
    perform (drop k (zip bits inputs)) v ≡ total →
    perform (drop (k + 1) (zip bits inputs)) (set v (get_or bits k 0) (get_or inputs k false)) ≡ total
put_more bits inputs v total k lt len h =
    let within : k < length (zip bits inputs) = rw (length-zip, len) (omega arith) in
    sym (at_drop_more (λ r. perform r v) (zip bits inputs) k (0, false) within
    ∙ ap (λ u. perform (u ∷ drop (k + 1) (zip bits inputs)) v) (get_or-zip bits inputs k (0, false) lt (omega arith))) ∙ h

pub put_done : (bits : List ℕ) (inputs v total : List Bool) (k : ℕ) → length bits ≤ k → length inputs ≡ length bits →
    perform (drop k (zip bits inputs)) v ≡ total → v ≡ total
put_done bits inputs v total k le len h =
    let past : length (zip bits inputs) ≤ k = rw (length-zip, len) (omega arith) in
    sym (ap (λ r. perform r v) (drop_all k (zip bits inputs) past)) ∙ h

-- ---- the order

-- a body of the order, as the code finds it
pub body_at : (d : Design) (order : List ℕ) (ps : List Process) (i : ℕ) (p : Process) → i < length order →
    get_or order i 0 < length d.processes → ps ≡ d.processes → p ≡ get_or ps (get_or order i 0) p → p.body ≡ get_or (bodies d order) i p.body
body_at d order ps i p lt named listed is =
    ap (λ (q : Process). q.body) (is ∙ ap (λ (qs : List Process). get_or qs (get_or order i 0) p) listed ∙ get_or_default d.processes (get_or order i 0) p idle named)
    ∙ sym (get_or-map (λ k. (process_at d k).body) order i 0 p.body lt)

pub bodies_long : (d : Design) (order : List ℕ) (i : ℕ) → i < length order → i < length (bodies d order)
bodies_long d order i lt = rw length-map lt

-- ---- clocked processes

reset_within : (d : Design) (o : Option Reset) (bits : ℕ) → All (λ b. b < bits) d.inputs → ((r : Reset) → o ≡ Some r → Contains d.inputs r.bit) → IfSome o (λ r. r.bit < bits)
reset_within d None bits within f = tt
reset_within d (Some r) bits within f = all_in (λ b. b < bits) d.inputs within r.bit (f r refl)

pub can_run : (d : Design) (order : List ℕ) → IsLegal d order → CanRun d
can_run d order legal = record {
  within = legal.within;
  assigns = legal.assigns;
  resets = λ k p lt. reset_within d (reset_of (get_or d.processes k p).kind) (length d.bits) legal.inputs_within (λ r e. (legal.resets k p lt r e).0);
}

triggered_clocked : (t : Trigger) (v : List Bool) (kind : ProcKind) → is_triggered t v kind ≡ true → is_clocked kind ≡ true
triggered_clocked ClockEdge v kind h = h
triggered_clocked Resets v Comb h = h
triggered_clocked Resets v (Clocked reset) h = refl

-- one process on
updates_more : (q : Process → Bool) (ps : List Process) (i : ℕ) (p : Process) (v next : List Bool) → i < length ps → p ≡ get_or ps i p →
    perform (updates_where q (drop i ps) v) next ≡ perform (updates_where q (drop (i + 1) ps) v) (perform (cond (q p) (exec p.body v).updates []) next)
updates_more q ps i p v next lt is =
    at_drop_more (λ r. perform (updates_where q r v) next) ps i p lt
    ∙ ap (λ (x : Process). perform (updates_where q (x ∷ drop (i + 1) ps) v) next) (sym is)
    ∙ perform-append (cond (q p) (exec p.body v).updates []) (updates_where q (drop (i + 1) ps) v) next

marks_more : (q : Process → Bool) (ps : List Process) (i : ℕ) (p : Process) (v marks : List Bool) → i < length ps → p ≡ get_or ps i p →
    flagged (marks_where q (drop i ps) v) marks ≡ flagged (marks_where q (drop (i + 1) ps) v) (flagged (cond (q p) (exec p.body v).marks []) marks)
marks_more q ps i p v marks lt is =
    at_drop_more (λ r. flagged (marks_where q r v) marks) ps i p lt
    ∙ ap (λ (x : Process). flagged (marks_where q (x ∷ drop (i + 1) ps) v) marks) (sym is)
    ∙ flagged-append (cond (q p) (exec p.body v).marks []) (marks_where q (drop (i + 1) ps) v) marks

-- what holds after each process
pub record Clocking (t : Trigger) (ps : List Process) (i : ℕ) (v next0 marks0 vs ns ms : List Bool) : Type 0 where
  pub values : vs ≡ v
  pub next : perform (updates_where (runs t v) (drop i ps) v) ns ≡ perform (updates_where (runs t v) ps v) next0
  pub marks : flagged (marks_where (runs t v) (drop i ps) v) ms ≡ flagged (marks_where (runs t v) ps v) marks0

module _ (t : Trigger) (ps : List Process) (i : ℕ) (p : Process) (v next0 marks0 values next marks : List Bool) (b : Bool) (lt : i < length ps) (is : p ≡ get_or ps i p)
    (tested : b ≡ is_triggered t values p.kind) (h : Clocking t ps i v next0 marks0 values next marks) where
  run_is : runs t v p ≡ b
  run_is = ap (λ (u : List Bool). is_triggered t u p.kind) (sym h.values) ∙ sym tested

  pub clock_then : (values' next' marks' : List Bool) → All (λ (q : Process). AssignsBy (is_clocked q.kind) q.body) ps → b ≡ true →
      values' ≡ (exec p.body values).values → next' ≡ perform (exec p.body values).updates next → marks' ≡ flagged (exec p.body values).marks marks →
      Clocking t ps (i + 1) v next0 marks0 values' next' marks'
  clock_then values' next' marks' assigns on a c e =
      let run : runs t v p ≡ true = run_is ∙ on in
      let by : AssignsBy (is_clocked p.kind) p.body = subst (λ (q : Process). AssignsBy (is_clocked q.kind) q.body) (sym is) (assigns i p lt) in
      let delayed : AssignsBy true p.body = subst (λ k. AssignsBy k p.body) (triggered_clocked t v p.kind run) by in
      record {
        values = a ∙ waits p.body values delayed ∙ h.values;
        next = ap (perform (updates_where (runs t v) (drop (i + 1) ps) v)) (c ∙ ap (λ (u : List Bool). perform (exec p.body u).updates next) h.values ∙ ap (λ k. perform (cond k (exec p.body v).updates []) next) (sym run))
            ∙ sym (updates_more (runs t v) ps i p v next lt is) ∙ h.next;
        marks = ap (flagged (marks_where (runs t v) (drop (i + 1) ps) v)) (e ∙ ap (λ (u : List Bool). flagged (exec p.body u).marks marks) h.values ∙ ap (λ k. flagged (cond k (exec p.body v).marks []) marks) (sym run))
            ∙ sym (marks_more (runs t v) ps i p v marks lt is) ∙ h.marks;
      }

  pub clock_else : b ≡ false → Clocking t ps (i + 1) v next0 marks0 values next marks
  clock_else off =
      let not_run : runs t v p ≡ false = run_is ∙ off in
      record {
        values = h.values;
        next = ap (perform (updates_where (runs t v) (drop (i + 1) ps) v)) (ap (λ k. perform (cond k (exec p.body v).updates []) next) (sym not_run))
            ∙ sym (updates_more (runs t v) ps i p v next lt is) ∙ h.next;
        marks = ap (flagged (marks_where (runs t v) (drop (i + 1) ps) v)) (ap (λ k. flagged (cond k (exec p.body v).marks []) marks) (sym not_run))
            ∙ sym (marks_more (runs t v) ps i p v marks lt is) ∙ h.marks;
      }
