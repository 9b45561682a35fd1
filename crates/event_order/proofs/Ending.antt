-- From every state some steps lead to a quiet one.
use Rattle.std.proofs.Common.{◌≡◌, ℕ, zero, suc, Bool, true, false, ◌&&◌, ◌||◌, List, [], ◌∷◌, ◌++◌, refl, sym, ap, ◌∙◌, subst, set, length, ◌<◌, ◌≤◌, ◌≢◌, inl, inr, ◌⊎◌, true≢false, arith}
use Rattle.std.specs.Prelude.{All, Contains}
use Rattle.std.proofs.lemmas.List.{get_or_past, length-set}
use Rattle.std.proofs.lemmas.List.Elements.{All-head, All-tail}
use Rattle.std.proofs.lemmas.Bool.{cases_eq, cases_lt, cases_Bool, and_parts, and_cases}
use Rattle.design_core.specs.declared.flat.Design.{Design}
use Rattle.bit_exprs.specs.Updates.{perform}
use Rattle.bit_exprs.specs.Values.{bit_at}
use Rattle.design_core.specs.Exec.{exec}
use Rattle.design_core.specs.Drive.{drives, needs}
use Rattle.design_core.specs.Settled.{is_clocked}
use Rattle.design_core.specs.Legality.{IsLegal, Placed, process_at, bodies, is_given}
use Rattle.design_core.proofs.Truth.{or_left}
use Rattle.design_core.proofs.Effects.{untouched}
use Rattle.event_order.specs.States.{State, IsIdle, woken}
use Rattle.event_order.specs.Steps.{Step, Run, Update, updated, after, Leads}
use Rattle.event_order.specs.Laws.{CanEnd}
use Rattle.event_order.proofs.Bodies.{known_kept}
use Rattle.event_order.proofs.Waking.{length-woken, stays_down, asleep, clocked_sleeps}
use Rattle.event_order.proofs.Settling.{ran_clocked, ran_clocked_is, woken_same, ran_settling, ran_settling_is, flag_own, flag_other, assigns_as}

pub leads_then : (d : Design) (s : State) (xs ys : List Step) (t u : State) → Leads d s xs t → Leads d t ys u → Leads d s (xs ++ ys) u
leads_then d s [] ys t u l m = subst (λ x. Leads d x ys u) (sym l) m
leads_then d s (x ∷ xs) ys t u l m = (l.0, leads_then d (after d s x) xs ys t u l.1 m)

pub Contains-cases : {X : Type 0} (x : X) (xs : List X) (y : X) → Contains (x ∷ xs) y → (x ≡ y) ⊎ Contains xs y
Contains-cases x xs y (zero, lt, e) = inl e
Contains-cases x xs y (suc k, lt, e) = inr (k, omega arith, e)

pub Contains-none : {X : Type 0} (y : X) → Contains [] y → ⊥
Contains-none y (k, lt, e) = omega arith

module _ (d : Design) (placing : List ℕ) (legal : IsLegal d placing) where
  abbrev Flagged : State → Type 0
  Flagged s = length s.pending ≡ length d.processes

  -- no flag of a clocked process is up
  abbrev Unclocked : State → Type 0
  Unclocked s = (k : ℕ) → k < length d.processes → is_clocked (process_at d k).kind ≡ true → bit_at s.pending k ≡ false

  -- each combinational process comes later in the order, or its flag is down and all that it needs is known
  abbrev InOrder : List ℕ → (ℕ → Bool) → State → Type 0
  InOrder rest known s = (k : ℕ) → k < length d.processes → is_clocked (process_at d k).kind ≡ false →
      Contains rest k ⊎ ((bit_at s.pending k ≡ false) × ((b : ℕ) → needs (process_at d k).body b ≡ true → known b ≡ true))

  -- what steps of combinational processes lead to
  record Calm (s : State) : Type 0 where
    steps : List Step
    end : State
    leads : Leads d s steps end
    flags : Flagged end
    idle : IsIdle end
    waiting : end.waiting ≡ s.waiting

  past_flags : (s : State) (k : ℕ) → Flagged s → length d.processes ≤ k → bit_at s.pending k ≡ false
  past_flags s k long le = get_or_past s.pending k false (omega arith)

  -- after process k of the order ran
  calm_order : (k : ℕ) (rest : List ℕ) (known : ℕ → Bool) (s : State) → Placed known (bodies d (k ∷ rest)) → k < length d.processes → is_clocked (process_at d k).kind ≡ false →
      Flagged s → InOrder (k ∷ rest) known s → InOrder rest (λ b. known b || drives (process_at d k).body b) (ran_settling d k s)
  calm_order k rest known s placed lt c long order j lj cj = elim (cases_eq j k) [
    | inl e ↦ inr (
      subst (λ i. bit_at (set (woken d.processes s.values (exec (process_at d k).body s.values).values s.pending) k false) i ≡ false) (sym e)
          (flag_own d.processes s.values (exec (process_at d k).body s.values).values s.pending k long lt),
      λ b n. or_left (known b) _ (placed.0 b (subst (λ i. needs (process_at d i).body b ≡ true) e n)),
    )
    | inr ne ↦ elim (order j lj cj) [
      | inl h ↦ elim (Contains-cases k rest j h) [ inl e ↦ absurd (ne (sym e)) | inr there ↦ inl there ]
      | inr h ↦ inr (
        flag_other d.processes s.values (exec (process_at d k).body s.values).values s.pending k j ne
            ∙ stays_down d.processes s.values (exec (process_at d k).body s.values).values s.pending j _ long lj h.0
            (asleep (process_at d j) s.values (exec (process_at d k).body s.values).values
            (λ b n. sym (untouched (process_at d k).body b s.values (All-head (λ x. drives x b ≡ false) (process_at d k).body (bodies d rest) (known_kept known (bodies d (k ∷ rest)) b placed (h.1 b n)))))),
        λ b n. or_left (known b) _ (h.1 b n),
      )
    ]
  ]

  calm_unclocked : (k : ℕ) (s : State) → is_clocked (process_at d k).kind ≡ false → Flagged s → Unclocked s → Unclocked (ran_settling d k s)
  calm_unclocked k s c long unclocked j lj cj =
      let ne : j ≢ k = λ e. true≢false (sym cj ∙ ap (λ i. is_clocked (process_at d i).kind) e ∙ c) in
      flag_other d.processes s.values (exec (process_at d k).body s.values).values s.pending k j ne
      ∙ stays_down d.processes s.values (exec (process_at d k).body s.values).values s.pending j _ long lj (unclocked j lj cj)
      (clocked_sleeps (process_at d j) s.values (exec (process_at d k).body s.values).values cj)

  calm : (rest : List ℕ) (known : ℕ → Bool) (s : State) → Placed known (bodies d rest) → All (λ k. k < length d.processes) rest → All (λ k. is_clocked (process_at d k).kind ≡ false) rest →
      Flagged s → Unclocked s → InOrder rest known s → Calm s
  calm [] known s placed named comb long unclocked order = record {
    steps = [];
    end = s;
    leads = refl;
    flags = long;
    idle = λ k. elim (cases_lt k (length d.processes)) [
      | inl lt ↦ elim (cases_Bool (is_clocked (process_at d k).kind)) [
        | inl c ↦ unclocked k lt c
        | inr c ↦ elim (order k lt c) [ inl h ↦ absurd (Contains-none k h) | inr h ↦ h.0 ]
      ]
      | inr le ↦ past_flags s k long le
    ];
    waiting = refl;
  }
  calm (k ∷ rest) known s placed named comb long unclocked order =
      let lt : k < length d.processes = All-head (λ i. i < length d.processes) k rest named in
      let c : is_clocked (process_at d k).kind ≡ false = All-head (λ i. is_clocked (process_at d i).kind ≡ false) k rest comb in
      let named' : All (λ i. i < length d.processes) rest = All-tail (λ i. i < length d.processes) k rest named in
      let comb' : All (λ i. is_clocked (process_at d i).kind ≡ false) rest = All-tail (λ i. is_clocked (process_at d i).kind ≡ false) k rest comb in
      elim (cases_Bool (bit_at s.pending k)) [
        | inl up ↦
            let more = calm rest (λ b. known b || drives (process_at d k).body b) (ran_settling d k s) placed.2 named' comb'
            (length-set (woken d.processes s.values (exec (process_at d k).body s.values).values s.pending) k false ∙ length-woken d.processes s.values (exec (process_at d k).body s.values).values s.pending long)
            (calm_unclocked k s c long unclocked) (calm_order k rest known s placed lt c long order) in
            record {
              steps = Run k ∷ more.steps;
              end = more.end;
              leads = ((lt, up), subst (λ x. Leads d x more.steps more.end) (sym (ran_settling_is d k s (assigns_as d placing legal k false lt c))) more.leads);
              flags = more.flags;
              idle = more.idle;
              waiting = more.waiting;
            }
        | inr down ↦ calm rest (λ b. known b || drives (process_at d k).body b) s placed.2 named' comb' long unclocked (λ j lj cj. elim (order j lj cj) [
          | inl h ↦ elim (Contains-cases k rest j h) [
            | inl e ↦ inr (subst (λ i. bit_at s.pending i ≡ false) e down, λ b n. or_left (known b) _ (placed.0 b (subst (λ i. needs (process_at d i).body b ≡ true) (sym e) n)))
            | inr there ↦ inl there
          ]
          | inr h ↦ inr (h.0, λ b n. or_left (known b) _ (h.1 b n))
        ])
      ]

  -- what steps of clocked processes lead to
  record Unclocks (s : State) (m : ℕ) : Type 0 where
    steps : List Step
    end : State
    leads : Leads d s steps end
    flags : Flagged end
    down : (k : ℕ) → k < m → k < length d.processes → is_clocked (process_at d k).kind ≡ true → bit_at end.pending k ≡ false

  unclocks : (m : ℕ) (s : State) → Flagged s → Unclocks s m
  unclocks zero s long = record { steps = []; end = s; leads = refl; flags = long; down = λ k lt l c. absurd (omega arith) }
  unclocks (suc m) s long =
      let before = unclocks m s long in
      elim (cases_lt m (length d.processes)) [
        | inr le ↦ record { steps = before.steps; end = before.end; leads = before.leads; flags = before.flags; down = λ k lt l c. before.down k (omega arith) l c }
        | inl lt ↦ elim (cases_Bool (bit_at before.end.pending m && is_clocked (process_at d m).kind)) [
          | inl both ↦
              let parts = and_parts (bit_at before.end.pending m) (is_clocked (process_at d m).kind) both in
              let e = before.end in
              record {
                steps = before.steps ++ Run m ∷ [];
                end = ran_clocked d m e;
                leads = leads_then d s before.steps (Run m ∷ []) e (ran_clocked d m e) before.leads ((lt, parts.0), ran_clocked_is d m e (assigns_as d placing legal m true lt parts.1));
                flags = length-set (woken d.processes e.values e.values e.pending) m false ∙ length-woken d.processes e.values e.values e.pending before.flags;
                down = λ k l lk c. elim (cases_eq k m) [
                  | inl q ↦ subst (λ i. bit_at (set (woken d.processes e.values e.values e.pending) m false) i ≡ false) (sym q) (flag_own d.processes e.values e.values e.pending m before.flags lt)
                  | inr ne ↦ flag_other d.processes e.values e.values e.pending m k ne ∙ woken_same d.processes e.values e.pending k (process_at d k) before.flags lk ∙ before.down k (omega arith) lk c
                ];
              }
          | inr not_both ↦ record {
            steps = before.steps;
            end = before.end;
            leads = before.leads;
            flags = before.flags;
            down = λ k l lk c. elim (cases_eq k m) [
              | inl q ↦ elim (and_cases (bit_at before.end.pending m) (is_clocked (process_at d m).kind) not_both) [
                | inl down ↦ subst (λ i. bit_at before.end.pending i ≡ false) (sym q) down
                | inr comb ↦ absurd (true≢false (sym c ∙ ap (λ i. is_clocked (process_at d i).kind) q ∙ comb))
              ]
              | inr ne ↦ before.down k (omega arith) lk c
            ];
          }
        ]
      ]

  calms : (s : State) → Flagged s → Unclocked s → Calm s
  calms s long unclocked = calm placing (is_given d) s legal.placed legal.named legal.combinational long unclocked (λ k lt c. inl (legal.each k lt c))

  -- updates wait or not
  nothing_or_some : (us : List (ℕ × Bool)) → (us ≡ []) ⊎ (us ≢ [])
  nothing_or_some [] = inl refl
  nothing_or_some (u ∷ us) = inr (λ e. cc)

  ends_calm : (s : State) → Flagged s → Unclocked s → CanEnd d s
  ends_calm s long unclocked =
      let first = calms s long unclocked in
      let m = first.end in
      elim (nothing_or_some m.waiting) [
        | inl none ↦ (first.steps, m, first.leads, record { idle = first.idle; done = none })
        | inr some ↦
            let w = perform m.waiting m.values in
            let second = calms (updated d m) (length-woken d.processes m.values w m.pending first.flags)
            (λ k lt c. stays_down d.processes m.values w m.pending k _ first.flags lt (first.idle k) (clocked_sleeps (process_at d k) m.values w c)) in (
              first.steps ++ Update ∷ second.steps,
              second.end,
              leads_then d s first.steps (Update ∷ second.steps) m second.end first.leads ((first.idle, some), second.leads),
              record { idle = second.idle; done = second.waiting },
            )
      ]

  pub ends : (s : State) → Flagged s → CanEnd d s
  ends s long =
      let n = length d.processes in
      let first = unclocks n s long in
      let rest = ends_calm first.end first.flags (λ k lt c. first.down k lt lt c) in
      (first.steps ++ rest.0, rest.1, leads_then d s first.steps rest.0 first.end rest.1 first.leads rest.2, rest.3)
