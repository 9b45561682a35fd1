-- The lemmas of frames make ladders.
use Rattle.std.proofs.Common.{◌≡◌, ◌≢◌, ℕ, ◌+◌, ◌-◌, ◌<◌, ◌≤◌, ◌==◌, min, zero, suc, Bool, true, false, cond, Some, List, [], map, length, get_or, refl, sym, ap, ◌∙◌, subst, arith}
use Rattle.std.specs.Prelude.{All as Each}
use Rattle.std.specs.List.{filter}
use Rattle.std.proofs.lemmas.Bool.{true≢false}
use Rattle.std.proofs.lemmas.Bool.Decides.{nat_tests}
use Rattle.std.proofs.lemmas.List.{get_or-map, length-map}
use Rattle.std.proofs.lemmas.List.Elements.{All-nil, All-map, All-filter, All-weaker}
use Rattle.aig_core.specs.Graph.{node_count}
use Rattle.bit_system.specs.declared.ladder.Depth.{Depth}
use Rattle.bit_system.specs.declared.ladder.Depth.TheVariants.{All, Steps}
use Rattle.bit_system.specs.declared.ladder.Lemma.{Lemma}
use Rattle.bit_system.specs.Machine.{Machine, IsInput, next_state}
use Rattle.bit_system.specs.Ladders.{HasStates, is_at_least, previous, lemma_true}
use Rattle.bit_system.specs.ProofLines.{ProofLine}
use Rattle.bit_system.specs.Queries.{hit_clauses}
use Rattle.bit_system.specs.Accepted.{IsLevelOf, LemmaFits, has_steps, true_at_start, IsRefutedBy, IsAccepted}
use Rattle.generalise.specs.Frames.{InFrame}
use Rattle.ic3_frames.specs.Framed.{Framed}
use Rattle.ic3_frames.specs.Queries.{Fails}
use Rattle.ic3_frames.specs.Rules.{IsFrameLemma, IsKept}
use Rattle.ic3_frames.specs.Turns.{IsClosed}
use Rattle.ic3_frames.proofs.Laws.{start_in_frame}
use Rattle.ic3_frames.proofs.Levels.{steps_same, at_least_steps, steps_at_least, each_tested, each_filtered}
use Rattle.point_prover.specs.Good.{IsGood, AreProved}
use Rattle.point_prover.specs.Levels.{at_level, all_for_ever, capped, all_capped}

some-steps : (d : Depth) → d ≢ Steps 0 → true ≡ has_steps d
some-steps All ne = refl
some-steps (Steps zero) ne = absurd (ne refl)
some-steps (Steps (suc n)) ne = grind (arith, nat_tests)

-- with their proofs, good lemmas are an accepted ladder
pub accepted : (m : Machine) (point : ℕ) (depth : Depth) (lemmas : List Lemma) (steps : List (List ProofLine)) (hit : List ProofLine) →
    IsGood m point depth lemmas → AreProved m lemmas (length lemmas) steps → IsRefutedBy (node_count m.graph) (hit_clauses m depth lemmas point) hit →
    IsAccepted m point (record { depth = depth; lemmas = lemmas; steps = steps; hit = Some hit })
accepted m point depth lemmas steps hit g p h = record {
  shape = record { lemmas = g.fits; steps = p.long; hit = some-steps depth g.steps };
  starts = g.starts;
  steps = λ i low l proof. p.each i l proof low;
  hit = h;
}

pub has_states : (m : Machine) (point : ℕ) (depth : Depth) (lemmas : List Lemma) → IsGood m point depth lemmas → Each (HasStates m) lemmas
has_states m point depth lemmas g = All-weaker (LemmaFits m depth) (HasStates m) (λ l f. f.states) lemmas g.fits

-- from a list that was mapped
pub each_back : (P Q : Lemma → Type 0) (h : Lemma → Lemma) → ((l : Lemma) → P (h l) → Q l) → (ls : List Lemma) → Each P (map h ls) → Each Q ls
each_back P Q h to ls e i d low = to (get_or ls i d) (subst P (get_or-map h ls i d (h d) low) (e i (h d) (omega (arith, length-map ls h))))

-- ---- equal frames

module _ (m : Machine) (f : Framed) (k : IsKept m f) (level : ℕ) (c : IsClosed m f level) where
  abbrev test : Lemma → Bool
  test l = is_at_least l.level (Steps level)

  closed-frame : (s : List Bool) → InFrame m (all_for_ever level f.lemmas) All s → InFrame m f.lemmas (Steps level) s
  closed-frame s g = record {
    is_state = g.is_state;
    starts = λ e. absurd (omega (arith, steps_same level 0 e, c.low));
    holds = each_tested (λ l. lemma_true s l ≡ true) test f.lemmas (unmapped (filter test f.lemmas) g.holds);
  }
    where
      unmapped : (ls : List Lemma) → Each (λ l. is_at_least l.level All ≡ true → lemma_true s l ≡ true) (map (at_level All) ls) → Each (λ l. lemma_true s l ≡ true) ls
      unmapped ls h = each_back (λ l. is_at_least l.level All ≡ true → lemma_true s l ≡ true) (λ l. lemma_true s l ≡ true) (at_level All) (λ l g. g refl) ls h

  closed-after : (s x : List Bool) → InFrame m f.lemmas (Steps level) s → IsInput m x → Each (λ l. lemma_true (next_state m s x) l ≡ true) (all_for_ever level f.lemmas)
  closed-after s x g input =
      let next : InFrame m f.lemmas (Steps level) (next_state m s x) = (c.equal (next_state m s x)).1 (k.lands level s x g input) in
      All-map (λ l. lemma_true (next_state m s x) l ≡ true) (at_level All) (filter test f.lemmas)
      (each_filtered (λ l. lemma_true (next_state m s x) l ≡ true) test f.lemmas next.holds)

  pub closed_good : IsGood m f.point All (all_for_ever level f.lemmas)
  closed_good = record {
    valid = k.valid;
    point_exists = k.point;
    steps = λ e. absurd cc;
    fits = All-map (LemmaFits m All) (at_level All) (filter test f.lemmas)
        (All-weaker (IsFrameLemma m) (λ l. LemmaFits m All (at_level All l)) (λ l h. record { level = tt; states = h.states; rises = h.rises }) (filter test f.lemmas)
        (All-filter test (IsFrameLemma m) f.lemmas k.lemmas));
    starts = All-map (λ l. true_at_start m l ≡ true) (at_level All) (filter test f.lemmas)
        (All-weaker (IsFrameLemma m) (λ l. true_at_start m l ≡ true) (λ l h. h.starts) (filter test f.lemmas) (All-filter test (IsFrameLemma m) f.lemmas k.lemmas));
    lasts = λ i d low s x h.
        let frame : InFrame m (all_for_ever level f.lemmas) All s = at_all d i low s x h in
        true≢false (sym (closed-after s x (closed-frame s frame) h.is_input i d low) ∙ h.false_after);
    misses = λ s x h.
        let here : level + 1 - 1 ≡ level = omega arith in
        k.misses level c.below s x (record { in_frame = subst (λ (n : ℕ). InFrame m f.lemmas (Steps n) s) (sym here) (closed-frame s h.in_frame); is_input = h.is_input; hit = h.hit });
  }
    where
      is-all : (ls : List Lemma) → Each (λ l. l.level ≡ All) (map (at_level All) ls)
      is-all ls = All-map (λ (l : Lemma). l.level ≡ All) (at_level All) ls (λ i d low. refl)

      at_all : (d : Lemma) (i : ℕ) → i < length (all_for_ever level f.lemmas) → (s x : List Bool) → Fails m (all_for_ever level f.lemmas) (get_or (all_for_ever level f.lemmas) i d) s x →
          InFrame m (all_for_ever level f.lemmas) All s
      at_all d i low s x h = subst (λ (e : Depth). InFrame m (all_for_ever level f.lemmas) (previous e) s) (is-all (filter test f.lemmas) i d low) h.in_frame

-- ---- frames below a depth

capped-up : (top n i : ℕ) → i ≤ top → is_at_least (Steps n) (Steps i) ≡ true → is_at_least (capped top (Steps n)) (Steps i) ≡ true
capped-up top n i le e = steps_at_least i (min n top) (omega (arith, at_least_steps i n e))

capped-down : (top n i : ℕ) → is_at_least (capped top (Steps n)) (Steps i) ≡ true → is_at_least (Steps n) (Steps i) ≡ true
capped-down top n i e = steps_at_least i n (omega (arith, at_least_steps i (min n top) e))

module _ (m : Machine) (f : Framed) (k : IsKept m f) (top : ℕ) where
  abbrev cap : Lemma → Lemma
  cap l = at_level (capped top l.level) l

  abbrev lower : List Lemma
  lower = map cap f.lemmas

  capped-frame : (i : ℕ) (s : List Bool) → i ≤ top → InFrame m lower (Steps i) s → InFrame m f.lemmas (Steps i) s
  capped-frame i s le g = record {
    is_state = g.is_state;
    starts = g.starts;
    holds = λ j d low up.
        let l : Lemma = get_or f.lemmas j d in
        let h : IsFrameLemma m l = k.lemmas j d low in
        let up' : is_at_least (capped top l.level) (Steps i) ≡ true =
        subst (λ (e : Depth). is_at_least e (Steps i) ≡ true → is_at_least (capped top e) (Steps i) ≡ true) (sym h.level.1) (capped-up top (h.level.0 + 1) i le) up in
        at_place j d low g up';
  }
    where
      at_place : (j : ℕ) (d : Lemma) → j < length f.lemmas → InFrame m lower (Steps i) s → is_at_least (capped top (get_or f.lemmas j d).level) (Steps i) ≡ true → lemma_true s (get_or f.lemmas j d) ≡ true
      at_place j d low g up = each_back (λ l. is_at_least l.level (Steps i) ≡ true → lemma_true s l ≡ true)
          (λ l. is_at_least (capped top l.level) (Steps i) ≡ true → lemma_true s l ≡ true) cap (λ l h. h) f.lemmas g.holds j d low up

  capped-lasts : 0 < top → (l : Lemma) → IsFrameLemma m l → ((s : List Bool) → (j : ℕ) → InFrame m f.lemmas (Steps j) s → is_at_least l.level (Steps j) ≡ true → lemma_true s l ≡ true) →
      (s x : List Bool) → Fails m lower (cap l) s x → ⊥
  capped-lasts low l h holds s x g =
      let n : ℕ = min (h.level.0 + 1) top in
      let level : (cap l).level ≡ Steps n = ap (capped top) h.level.1 in
      let frame : InFrame m lower (Steps (n - 1)) s = subst (λ (e : Depth). InFrame m lower (previous e) s) level g.in_frame in
      let after : InFrame m f.lemmas (Steps (n - 1 + 1)) (next_state m s x) = k.lands (n - 1) s x (capped-frame (n - 1) s (omega arith) frame) g.is_input in
      let up : is_at_least l.level (Steps (n - 1 + 1)) ≡ true =
      subst (λ (e : Depth). is_at_least e (Steps (n - 1 + 1)) ≡ true) (sym h.level.1) (steps_at_least (n - 1 + 1) (h.level.0 + 1) (omega arith)) in
      true≢false (sym (holds (next_state m s x) (n - 1 + 1) after up) ∙ g.false_after)

  capped-fits : (depth : ℕ) → 0 < top → top < depth → (l : Lemma) → IsFrameLemma m l → LemmaFits m (Steps depth) (cap l)
  capped-fits depth low below l h = record {
    level = subst (λ (e : Depth). IsLevelOf (Steps depth) (capped top e)) (sym h.level.1) (omega arith, omega arith);
    states = h.states;
    rises = h.rises;
  }

  pub some_good : (depth : ℕ) → depth ≡ top + 1 → depth ≤ f.depth → 0 < top → IsGood m f.point (Steps depth) lower
  some_good depth e le low = record {
    valid = k.valid;
    point_exists = k.point;
    steps = λ z. absurd (omega (arith, steps_same depth 0 z));
    fits = All-map (LemmaFits m (Steps depth)) cap f.lemmas (All-weaker (IsFrameLemma m) (λ l. LemmaFits m (Steps depth) (cap l)) (capped-fits depth low (omega arith)) f.lemmas k.lemmas);
    starts = All-map (λ l. true_at_start m l ≡ true) cap f.lemmas (All-weaker (IsFrameLemma m) (λ l. true_at_start m l ≡ true) (λ l h. h.starts) f.lemmas k.lemmas);
    lasts = All-map (λ l. (s x : List Bool) → Fails m lower l s x → ⊥) cap f.lemmas
        (λ i d below. capped-lasts low (get_or f.lemmas i d) (k.lemmas i d below) (λ s j g up. g.holds i d below up));
    misses = λ s x h.
        let here : depth - 1 ≡ top = omega arith in
        let frame : InFrame m f.lemmas (Steps top) s = capped-frame top s (omega arith) (subst (λ (n : ℕ). InFrame m lower (Steps n) s) here h.in_frame) in
        let there : top + 1 - 1 ≡ top = omega arith in
        k.misses top (omega arith) s x (record { in_frame = subst (λ (n : ℕ). InFrame m f.lemmas (Steps n) s) (sym there) frame; is_input = h.is_input; hit = h.hit });
  }

first-good : (m : Machine) (f : Framed) → IsKept m f → 0 < f.depth → IsGood m f.point (Steps 1) []
first-good m f k low = record {
  valid = k.valid;
  point_exists = k.point;
  steps = λ z. absurd (omega (arith, steps_same 1 0 z));
  fits = All-nil (LemmaFits m (Steps 1));
  starts = All-nil (λ l. true_at_start m l ≡ true);
  lasts = All-nil (λ l. (s x : List Bool) → Fails m [] l s x → ⊥);
  misses = λ s x h. k.misses 0 low s x (record { in_frame = start_in_frame m f.lemmas (Steps 0) s k.lemmas (h.in_frame.starts refl); is_input = h.is_input; hit = h.hit });
}

pub depth_good : (m : Machine) (f : Framed) (depth top : ℕ) → IsKept m f → depth ≡ f.depth → depth ≡ top + 1 → IsGood m f.point (Steps depth) (all_capped top f.lemmas)
depth_good m f depth zero k e is =
    let one : 1 ≡ depth = omega arith in
    subst (λ (n : ℕ). IsGood m f.point (Steps n) []) one (first-good m f k (omega arith))
depth_good m f depth (suc n) k e is =
    let some : (suc n == 0) ≡ false = grind (arith, nat_tests) in
    subst (λ (b : Bool). IsGood m f.point (Steps depth) (cond b [] (map (λ l. at_level (capped (suc n) l.level) l) f.lemmas))) (sym some)
    (some_good m f k (suc n) depth is (omega arith) (omega arith))
