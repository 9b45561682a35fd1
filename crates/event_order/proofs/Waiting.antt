-- The waiting updates, in whichever order the processes ran.
use Rattle.std.proofs.Common.{◌≡◌, ℕ, zero, suc, Bool, true, false, List, [], ◌∷◌, ◌++◌, refl, sym, ap, ◌∙◌, subst, get_or, length, ◌<◌, ◌≢◌, inl, inr, true≢false, arith}
use Rattle.std.proofs.lemmas.List.{ext_get_or}
use Rattle.std.proofs.lemmas.Bool.{cases_eq, cases_Bool}
use Rattle.design_core.specs.declared.flat.Process.{Process}
use Rattle.design_core.specs.declared.flat.Design.{Design}
use Rattle.bit_exprs.specs.Updates.{perform}
use Rattle.bit_exprs.specs.Values.{bit_at}
use Rattle.design_core.specs.Drive.{drives}
use Rattle.design_core.specs.Settled.{is_clocked, clocked_updates}
use Rattle.design_core.specs.Legality.{process_at}
use Rattle.bit_exprs.proofs.Performing.{length-perform, perform-append}
use Rattle.event_order.proofs.Drivers.{HasOneDriver, only_driver}
use Rattle.event_order.proofs.Updates.{OwnBits, none_drives, one_drives, perform_same, aside, aside_other, aside_unclocked, next_all}
use Rattle.event_order.specs.States.{some_below}
use Rattle.event_order.proofs.Bodies.{not_both}
use Rattle.event_order.proofs.Waking.{one_below, none_below}

own_aside : (v : List Bool) → OwnBits (λ (p : Process). aside p v)
own_aside v p w b h = aside_other p v w b h

put_aside_other : (ps : List Process) (v w : List Bool) (b : ℕ) (e : Process) → ((j : ℕ) → j < length ps → drives (get_or ps j e).body b ≡ false) →
    bit_at (perform (clocked_updates ps v) w) b ≡ bit_at w b
put_aside_other ps v w b e h = none_drives (λ (p : Process). aside p v) (own_aside v) ps w b e h

pub put_aside_one : (ps : List Process) (v w : List Bool) (k b : ℕ) (e : Process) → k < length ps → ((j : ℕ) → j < length ps → j ≢ k → drives (get_or ps j e).body b ≡ false) →
    bit_at (perform (clocked_updates ps v) w) b ≡ bit_at (perform (aside (get_or ps k e) v) w) b
put_aside_one ps v w k b e lt h = one_drives (λ (p : Process). aside p v) (own_aside v) ps w k b e lt h

-- no clocked process of the list drives the bit
pub put_aside_free : (ps : List Process) (v w : List Bool) (b : ℕ) (e : Process) → ((j : ℕ) → j < length ps → is_clocked (get_or ps j e).kind ≡ true → drives (get_or ps j e).body b ≡ false) →
    bit_at (perform (clocked_updates ps v) w) b ≡ bit_at w b
put_aside_free [] v w b e h = refl
put_aside_free (p ∷ ps) v w b e h =
    ap (λ x. bit_at x b) (perform-append (aside p v) (clocked_updates ps v) w)
    ∙ put_aside_free ps v (perform (aside p v) w) b e (λ j lt. h (suc j) (omega arith))
    ∙ elim (cases_Bool (is_clocked p.kind)) [
      | inl c ↦ aside_other p v w b (h zero (omega arith) c)
      | inr c ↦ ap (λ us. bit_at (perform us w) b) (aside_unclocked p v c)
    ]

-- the updates are those of the processes whose flags are down, executed on v
pub record Aside (d : Design) (v flags : List Bool) (us : List (ℕ × Bool)) : Type 0 where
  pub ran : (k b : ℕ) → k < length d.processes → bit_at flags k ≡ false → drives (process_at d k).body b ≡ true →
      bit_at (perform us v) b ≡ bit_at (perform (aside (process_at d k) v) v) b
  pub rest : (b : ℕ) → ((k : ℕ) → k < length d.processes → bit_at flags k ≡ false → drives (process_at d k).body b ≡ true → ⊥) →
      bit_at (perform us v) b ≡ bit_at v b

module _ (d : Design) (one : HasOneDriver d) where
  -- process k has put its updates behind the others
  pub aside_more : (v flags flags' : List Bool) (us : List (ℕ × Bool)) (k : ℕ) → k < length d.processes → bit_at flags k ≡ true →
      bit_at flags' k ≡ false → ((j : ℕ) → j < length d.processes → j ≢ k → bit_at flags' j ≡ bit_at flags j) →
      Aside d v flags us → Aside d v flags' (us ++ aside (process_at d k) v)
  aside_more v flags flags' us k lt up down others h = record { ran = ran'; rest = rest' }
    where
      joined : perform (us ++ aside (process_at d k) v) v ≡ perform (aside (process_at d k) v) (perform us v)
      joined = perform-append us (aside (process_at d k) v) v

      ran' : (j b : ℕ) → j < length d.processes → bit_at flags' j ≡ false → drives (process_at d j).body b ≡ true →
          bit_at (perform (us ++ aside (process_at d k) v) v) b ≡ bit_at (perform (aside (process_at d j) v) v) b
      ran' j b lj dj drive = ap (λ x. bit_at x b) joined ∙ elim (cases_eq j k) [
        | inl e ↦
            let drive' : drives (process_at d k).body b ≡ true = subst (λ i. drives (process_at d i).body b ≡ true) e drive in
            let none : bit_at (perform us v) b ≡ bit_at v b = h.rest b (λ i li di x. true≢false (sym up ∙ subst (λ m. bit_at flags m ≡ false) (one.one i k b li lt x drive') di)) in
            rw e (perform_same (aside (process_at d k) v) (perform us v) v b (length-perform us v) none)
        | inr ne ↦
            aside_other (process_at d k) v (perform us v) b (only_driver d one k j b lt lj drive (λ e. ne (sym e)))
            ∙ h.ran j b lj (sym (others j lj ne) ∙ dj) drive
      ]

      rest' : (b : ℕ) → ((j : ℕ) → j < length d.processes → bit_at flags' j ≡ false → drives (process_at d j).body b ≡ true → ⊥) →
          bit_at (perform (us ++ aside (process_at d k) v) v) b ≡ bit_at v b
      rest' b none = ap (λ x. bit_at x b) joined
          ∙ aside_other (process_at d k) v (perform us v) b (not_both (drives (process_at d k).body b) (λ x. none k lt down x))
          ∙ h.rest b (λ j lj dj x. elim (cases_eq j k) [
            | inl e ↦ true≢false (sym up ∙ subst (λ m. bit_at flags m ≡ false) e dj)
            | inr ne ↦ none j lj (others j lj ne ∙ dj) x
          ])

  -- where every process has run, performing the updates gives the next values
  pub aside_all : (v flags : List Bool) (us : List (ℕ × Bool)) → ((k : ℕ) → bit_at flags k ≡ false) → Aside d v flags us → perform us v ≡ next_all d v
  aside_all v flags us down h =
      ext_get_or false (perform us v) (next_all d v) (length-perform us v ∙ sym (length-perform (clocked_updates d.processes v) v)) (λ b lt. at b)
    where
      at : (b : ℕ) → bit_at (perform us v) b ≡ bit_at (next_all d v) b
      at b = elim (cases_Bool (some_below (length d.processes) (λ k. drives (process_at d k).body b))) [
        | inl e ↦
            let found = one_below (length d.processes) (λ k. drives (process_at d k).body b) e in
            h.ran found.0 b found.1 (down found.0) found.2
            ∙ sym (put_aside_one d.processes v v found.0 b _ found.1 (λ j lj ne. only_driver d one j found.0 b lj found.1 found.2 ne))
        | inr e ↦
            let none = none_below (length d.processes) (λ k. drives (process_at d k).body b) e in
            h.rest b (λ k lk dk x. true≢false (sym x ∙ none k lk)) ∙ sym (put_aside_other d.processes v v b _ none)
      ]

  -- before any clocked process has run, idle waits
  pub aside_none : (v flags : List Bool) → ((k : ℕ) → k < length d.processes → bit_at flags k ≡ false → is_clocked (process_at d k).kind ≡ false) → Aside d v flags []
  aside_none v flags comb = record {
    ran = λ k b lt dk x. sym (ap (λ us. bit_at (perform us v) b) (aside_unclocked (process_at d k) v (comb k lt dk)));
    rest = λ b none. refl;
  }
