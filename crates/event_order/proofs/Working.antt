-- How much work is left, so that every list of steps ends.
use Rattle.std.proofs.Common.{◌≡◌, ℕ, zero, suc, Bool, true, false, ◌&&◌, ◌||◌, List, [], ◌∷◌, refl, sym, ap, ◌∙◌, subst, set, length, ◌<◌, ◌≤◌, ◌≢◌, ◌+◌, ◌*◌, ◌^◌, inl, inr, true≢false, arith}
use Rattle.std.proofs.Math.Nat.{pow-suc, mul-le-mul_left}
use Rattle.std.specs.Prelude.{All, Contains}
use Rattle.std.proofs.lemmas.List.{get_or-map, get_or_default, length-map}
use Rattle.std.proofs.lemmas.List.Elements.{All-head, All-tail}
use Rattle.std.proofs.lemmas.Bool.{cases_eq, cases_Bool}
use Rattle.design_core.specs.declared.flat.Stmt.{Stmt}
use Rattle.design_core.specs.declared.flat.Design.{Design}
use Rattle.bit_exprs.specs.Values.{bit_at}
use Rattle.design_core.specs.Exec.{exec}
use Rattle.design_core.specs.Drive.{drives}
use Rattle.design_core.specs.Settled.{is_clocked}
use Rattle.design_core.specs.Legality.{IsLegal, Placed, process_at, bodies, is_given}
use Rattle.design_core.proofs.Effects.{untouched}
use Rattle.event_order.specs.States.{woken, wakes}
use Rattle.event_order.specs.Work.{rank, count_below, some_waiting, clocked_pending, work}
use Rattle.event_order.proofs.Bodies.{known_kept}
use Rattle.event_order.proofs.Waking.{woken_at, stays_down, asleep, clocked_sleeps}
use Rattle.event_order.proofs.Settling.{flag_own, flag_other, woken_same, or_nothing}
use Rattle.event_order.proofs.Ending.{Contains-cases, Contains-none}

and_false : (a : Bool) → (a && false) ≡ false
and_false true = refl
and_false false = refl

double : (n : ℕ) → 2 ^ suc n ≡ 2 ^ n + 2 ^ n
double n = pow-suc 2 n ∙ omega arith

clocked_less : (b c c' w w' r r' : ℕ) → c' + 1 ≡ c → w' ≤ 1 → r' ≡ r → 0 < b → 2 * b * c' + b * w' + r' < 2 * b * c + b * w + r
clocked_less b c c' w w' r r' less most same some = rw (← less) (omega (arith, mul-le-mul_left b most))

update_less : (b c c' r r' : ℕ) → c' ≡ 0 → r' < b → 2 * b * c' + b * 0 + r' < 2 * b * c + b * 1 + r
update_less b c c' r r' none below = rw none (omega arith)

rank_below : (order : List ℕ) (flags : List Bool) → rank order flags < 2 ^ length order
rank_below [] flags = omega arith
rank_below (k ∷ rest) flags = elim (cases_Bool (bit_at flags k)) [
  | inl up ↦ let below = rank_below rest flags in rw (up, double) (omega arith)
  | inr down ↦ let below = rank_below rest flags in rw (down, double) (omega arith)
]

-- the same flags of the order have the same rank
rank_same : (order : List ℕ) (flags flags' : List Bool) → ((k : ℕ) → Contains order k → bit_at flags' k ≡ bit_at flags k) → rank order flags' ≡ rank order flags
rank_same [] flags flags' same = refl
rank_same (k ∷ rest) flags flags' same =
    let here : bit_at flags' k ≡ bit_at flags k = same k (zero, omega arith, refl) in
    let there : rank rest flags' ≡ rank rest flags = rank_same rest flags flags' (λ j c. same j (suc c.0, omega (arith, c.1), c.2)) in
    cc

count_same : (n : ℕ) (f g : ℕ → Bool) → ((k : ℕ) → k < n → g k ≡ f k) → count_below n g ≡ count_below n f
count_same zero f g same = refl
count_same (suc n) f g same =
    let here : g n ≡ f n = same n (omega arith) in
    let there : count_below n g ≡ count_below n f = count_same n f g (λ k lt. same k (omega arith)) in
    cc

count_less : (n : ℕ) (f g : ℕ → Bool) (k : ℕ) → k < n → f k ≡ true → g k ≡ false → ((j : ℕ) → j < n → j ≢ k → g j ≡ f j) → count_below n g + 1 ≡ count_below n f
count_less zero f g k lt up down same = absurd (omega arith)
count_less (suc n) f g k lt up down same = elim (cases_eq k n) [
  | inl e ↦
      let fn : f n ≡ true = subst (λ i. f i ≡ true) e up in
      let gn : g n ≡ false = subst (λ i. g i ≡ false) e down in
      let there : count_below n g ≡ count_below n f = count_same n f g (λ j l. same j (omega arith) (λ q. absurd (omega arith))) in
      rw (fn, gn) (omega arith)
  | inr ne ↦
      let here : g n ≡ f n = same n (omega arith) (λ q. ne (sym q)) in
      let there : count_below n g + 1 ≡ count_below n f = count_less n f g k (omega arith) up down (λ j l q. same j (omega arith) q) in
      rw here (omega arith)
]

count_none : (n : ℕ) (f : ℕ → Bool) → ((k : ℕ) → k < n → f k ≡ false) → count_below n f ≡ 0
count_none zero f none = refl
count_none (suc n) f none = rw (none n (omega arith)) (omega (arith, count_none n f (λ k lt. none k (omega arith))))

module _ (d : Design) where
  in_bodies : (P : Stmt → Type 0) (rest : List ℕ) (k : ℕ) → All P (bodies d rest) → Contains rest k → P (process_at d k).body
  in_bodies P rest k all c =
      let lt : c.0 < length (bodies d rest) = rw length-map c.1 in
      subst P (get_or-map (λ j. (process_at d j).body) rest c.0 0 (process_at d k).body c.1 ∙ ap (λ j. (process_at d j).body) (get_or_default rest c.0 0 k c.1 ∙ c.2)) (all c.0 (process_at d k).body lt)

  abbrev pub after_run : ℕ → List Bool → List Bool → List Bool
  after_run k v flags = set (woken d.processes v (exec (process_at d k).body v).values flags) k false

  -- running a combinational process takes its flag down, and raises flags of later ones alone
  rank_less : (rest : List ℕ) (known : ℕ → Bool) (k : ℕ) (v flags : List Bool) → Placed known (bodies d rest) → All (λ j. j < length d.processes) rest → Contains rest k →
      length flags ≡ length d.processes → k < length d.processes → bit_at flags k ≡ true → rank rest (after_run k v flags) < rank rest flags
  rank_less [] known k v flags placed named c long lt up = absurd (Contains-none k c)
  rank_less (j ∷ rest) known k v flags placed named c long lt up = elim (cases_eq j k) [
    | inl e ↦
        let down : bit_at (after_run k v flags) j ≡ false = subst (λ i. bit_at (after_run k v flags) i ≡ false) (sym e) (flag_own d.processes v (exec (process_at d k).body v).values flags k long lt) in
        let up' : bit_at flags j ≡ true = subst (λ i. bit_at flags i ≡ true) (sym e) up in
        let below = rank_below rest (after_run k v flags) in
        rw (down, up') (omega arith)
    | inr ne ↦
        let there : Contains rest k = elim (Contains-cases j rest k c) [ inl e ↦ absurd (ne e) | inr h ↦ h ] in
        let lj : j < length d.processes = All-head (λ i. i < length d.processes) j rest named in
        let sleeps : wakes (process_at d j) v (exec (process_at d k).body v).values ≡ false =
        asleep (process_at d j) v (exec (process_at d k).body v).values (λ b n. sym (untouched (process_at d k).body b v
        (in_bodies (λ x. drives x b ≡ false) rest k (All-tail (λ x. drives x b ≡ false) (process_at d j).body (bodies d rest) (known_kept known (bodies d (j ∷ rest)) b placed (placed.0 b n))) there))) in
        let same : bit_at (after_run k v flags) j ≡ bit_at flags j =
        flag_other d.processes v (exec (process_at d k).body v).values flags k j ne
        ∙ woken_at d.processes v (exec (process_at d k).body v).values flags j _ long lj
        ∙ or_nothing (bit_at flags j) _ sleeps in
        let less = rank_less rest (λ b. known b || drives (process_at d j).body b) k v flags placed.2 (All-tail (λ i. i < length d.processes) j rest named) there long lt up in
        rw same (omega arith)
  ]

  waiting_most : (us : List (ℕ × Bool)) → some_waiting us ≤ 1
  waiting_most [] = omega arith
  waiting_most (u ∷ us) = omega arith

  module _ (order : List ℕ) (legal : IsLegal d order) where
    pub work_combinational : (k : ℕ) (v flags : List Bool) (waiting : List (ℕ × Bool)) → length flags ≡ length d.processes → k < length d.processes → is_clocked (process_at d k).kind ≡ false →
        bit_at flags k ≡ true → work d order (after_run k v flags) waiting < work d order flags waiting
    work_combinational k v flags waiting long lt comb up =
        let less = rank_less order (is_given d) k v flags legal.placed legal.named (legal.each k lt comb) long lt up in
        let same : clocked_pending d (after_run k v flags) ≡ clocked_pending d flags =
        count_same (length d.processes) (λ j. is_clocked (process_at d j).kind && bit_at flags j) (λ j. is_clocked (process_at d j).kind && bit_at (after_run k v flags) j)
        (λ j lj. elim (cases_Bool (is_clocked (process_at d j).kind)) [
          | inl c ↦ ap (λ x. is_clocked (process_at d j).kind && x) (
              flag_other d.processes v (exec (process_at d k).body v).values flags k j (λ e. true≢false (sym c ∙ ap (λ i. is_clocked (process_at d i).kind) e ∙ comb))
              ∙ woken_at d.processes v (exec (process_at d k).body v).values flags j _ long lj
              ∙ or_nothing (bit_at flags j) _ (clocked_sleeps (process_at d j) v (exec (process_at d k).body v).values c))
          | inr c ↦ rw c refl
        ]) in
        rw same (omega arith)

    pub work_clocked : (k : ℕ) (v flags : List Bool) (waiting waiting' : List (ℕ × Bool)) → length flags ≡ length d.processes → k < length d.processes → is_clocked (process_at d k).kind ≡ true →
        bit_at flags k ≡ true → work d order (set (woken d.processes v v flags) k false) waiting' < work d order flags waiting
    work_clocked k v flags waiting waiting' long lt c up =
        let flags' = set (woken d.processes v v flags) k false in
        let others : (j : ℕ) → j < length d.processes → j ≢ k → bit_at flags' j ≡ bit_at flags j = λ j lj ne.
        flag_other d.processes v v flags k j ne ∙ woken_same d.processes v flags j (process_at d j) long lj in
        let ranks : rank order flags' ≡ rank order flags = rank_same order flags flags' (λ j h.
        let lj : j < length d.processes = subst (λ i. i < length d.processes) h.2 (legal.named h.0 j h.1) in
        let comb : is_clocked (process_at d j).kind ≡ false = subst (λ i. is_clocked (process_at d i).kind ≡ false) h.2 (legal.combinational h.0 j h.1) in
        others j lj (λ e. true≢false (sym c ∙ ap (λ i. is_clocked (process_at d i).kind) (sym e) ∙ comb))) in
        let less : clocked_pending d flags' + 1 ≡ clocked_pending d flags =
        count_less (length d.processes) (λ j. is_clocked (process_at d j).kind && bit_at flags j) (λ j. is_clocked (process_at d j).kind && bit_at flags' j) k lt
        (rw (c, up) refl) (rw (flag_own d.processes v v flags k long lt) (and_false (is_clocked (process_at d k).kind)))
        (λ j lj ne. ap (λ x. is_clocked (process_at d j).kind && x) (others j lj ne)) in
        clocked_less (2 ^ length order) (clocked_pending d flags) (clocked_pending d flags') (some_waiting waiting) (some_waiting waiting') (rank order flags) (rank order flags') less (waiting_most waiting') ranks (let below = rank_below order flags in omega arith)

    pub work_update : (v w flags : List Bool) (waiting : List (ℕ × Bool)) → length flags ≡ length d.processes → ((k : ℕ) → bit_at flags k ≡ false) → waiting ≢ [] →
        work d order (woken d.processes v w flags) [] < work d order flags waiting
    work_update v w flags [] long idle some = absurd (some refl)
    work_update v w flags (u ∷ us) long idle some =
        let flags' = woken d.processes v w flags in
        let below = rank_below order flags' in
        let none : clocked_pending d flags' ≡ 0 = count_none (length d.processes) (λ j. is_clocked (process_at d j).kind && bit_at flags' j) (λ j lj. elim (cases_Bool (is_clocked (process_at d j).kind)) [
          | inl c ↦ rw (stays_down d.processes v w flags j _ long lj (idle j) (clocked_sleeps (process_at d j) v w c)) (and_false (is_clocked (process_at d j).kind))
          | inr c ↦ rw c refl
        ]) in
        update_less (2 ^ length order) (clocked_pending d flags) (clocked_pending d flags') (rank order flags) (rank order flags') none below
