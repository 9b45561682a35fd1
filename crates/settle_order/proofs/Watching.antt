-- A node waits for one unknown bit that it needs, or is ready; and bits become known.
use Rattle.std.proofs.Common.{◌≡◌, ℕ, ◌+◌, ◌<◌, ◌≤◌, ◌⊎◌, inl, inr, zero, suc, Bool, true, false, cond, List, [], ◌∷◌, ◌++◌, length, get_or, set, refl, sym, ◌∙◌, subst, arith}
use Rattle.std.specs.Prelude.{Contains, All}
use Rattle.std.specs.BTreeSet.{BTreeSet, insert_key, Updates, contains}
use Rattle.std.specs.Ordering.{nat_cmp}
use Rattle.std.proofs.lemmas.Bool.{cases_eq, cases_Bool, true≢false}
use Rattle.std.proofs.lemmas.List.{get_or-set_same, get_or-set_other, get_or_default, length-set}
use Rattle.std.proofs.lemmas.List.Elements.{All-append, All-head, All-tail, Contains-get_or, Contains-push, Contains-push_cases, Contains-append_left, Contains-append_right}
use Rattle.std.proofs.lemmas.Cmp.{nat_cmp_total}
use Rattle.std.proofs.lemmas.Map.Lookups.{exact_unsigned}
use Rattle.std.proofs.lemmas.Map.Views.{All-insert_key, btree_set_contains_iff}
use Rattle.settle_order.specs.declared.nodes.Node.{Node}
use Rattle.settle_order.specs.declared.sweep.Sweep.{Sweep}
use Rattle.settle_order.specs.Nodes.{node_at, Needs}
use Rattle.settle_order.specs.Sweeping.{on, list_at, IsScanned, IsScan, AllKnown, IsSized, IsLeft, CanPlace, WaitsFor, IsSwept, Releases, IsRaised}
use Rattle.settle_order.proofs.Flags.{on_set, on_set_cases}

-- ---- scanning

-- all needs before the end are known
pub all_scanned : (nodes : List Node) (flags : List Bool) (k at : ℕ) → IsScanned flags (node_at nodes k).needs at → length (node_at nodes k).needs ≤ at → AllKnown nodes flags k
all_scanned nodes flags k at s far b c =
    let is : get_or (node_at nodes k).needs c.0 0 ≡ b = get_or_default (node_at nodes k).needs c.0 0 b c.1 ∙ c.2 in
    rw (← is) (s.known c.0 (omega (arith, c.1)))

pub need_at : (nodes : List Node) (k at : ℕ) → at < length (node_at nodes k).needs → Needs nodes k (get_or (node_at nodes k).needs at 0)
need_at nodes k at h = Contains-get_or (node_at nodes k).needs at 0 h

-- ---- the first of the moving nodes

abbrev scanned_to : Sweep → ℕ → ℕ → Sweep
scanned_to s node at = record s { scanned = set s.scanned node at }

sized_scanned : (nodes : List Node) (s : Sweep) (node at : ℕ) → IsSized nodes s → node < length nodes → IsScanned s.known (node_at nodes node).needs at → IsSized nodes (scanned_to s node at)
sized_scanned nodes s node at z h scan = record {
  placed = z.placed;
  scans = length-set s.scanned node at ∙ z.scans;
  waiting = z.waiting;
  needs = z.needs;
  drives = z.drives;
  scanned = λ k. elim (cases_eq k node) [
    | inl q ↦ rw q (rw (get_or-set_same s.scanned node at 0 (omega (arith, z.scans))) scan)
    | inr ne ↦ rw (get_or-set_other s.scanned node k at 0 ne) (z.scanned k)
  ];
}

list_set_same : (lists : List (List ℕ)) (b : ℕ) (xs : List ℕ) → b < length lists → list_at (set lists b xs) b ≡ xs
list_set_same lists b xs h = get_or-set_same lists b xs [] h

list_set_other : (lists : List (List ℕ)) (b c : ℕ) (xs : List ℕ) → (c ≡ b → ⊥) → list_at (set lists b xs) c ≡ list_at lists c
list_set_other lists b c xs ne = get_or-set_other lists b c xs [] ne

-- the head or one of the rest
pub moves_or : (x : ℕ) (xs : List ℕ) (y : ℕ) → Contains (x ∷ xs) y → (x ≡ y) ⊎ Contains xs y
moves_or x xs y (zero, low, e) = inl e
moves_or x xs y (suc k, low, e) = inr (k, omega arith, e)

-- it waits for an unknown need
pub swept_waits : (nodes : List Node) (s : Sweep) (node : ℕ) (rest : List ℕ) (at : ℕ) → IsSwept nodes s (node ∷ rest) → IsScan s.known (node_at nodes node).needs at → at < length (node_at nodes node).needs →
    let b = get_or (node_at nodes node).needs at 0 in
    IsSwept nodes (record (scanned_to s node at) { waiting = set s.waiting b (list_at s.waiting b ++ node ∷ []) }) rest
swept_waits nodes s node rest at w scan low =
    let b = get_or (node_at nodes node).needs at 0 in
    let left : IsLeft nodes s.placed node = All-head (IsLeft nodes s.placed) node rest w.moves in
    let z = sized_scanned nodes s node at w.sized left.exists scan.scanned in
    let within : b < length s.waiting = omega (arith, w.sized.needs node b (need_at nodes node at low), w.sized.waiting) in
    let lists : List (List ℕ) = set s.waiting b (list_at s.waiting b ++ node ∷ []) in
    let here : list_at lists b ≡ list_at s.waiting b ++ node ∷ [] = list_set_same s.waiting b (list_at s.waiting b ++ node ∷ []) within in
    let kept : (c k : ℕ) → Contains (list_at s.waiting c) k → Contains (list_at lists c) k =
    λ c k h. elim (cases_eq c b) [
      | inl q ↦ rw q (rw here (Contains-append_left (list_at s.waiting b) (node ∷ []) k (rw q at h)))
      | inr ne ↦ rw (list_set_other s.waiting b c (list_at s.waiting b ++ node ∷ []) ne) h
    ] in
    record {
      sized = record {
        placed = z.placed;
        scans = z.scans;
        waiting = length-set s.waiting b (list_at s.waiting b ++ node ∷ []) ∙ z.waiting;
        needs = z.needs;
        drives = z.drives;
        scanned = z.scanned;
      };
      ready = λ i d h. let r = w.ready i d h in record { left = r.left; known = r.known };
      moves = All-tail (IsLeft nodes s.placed) node rest w.moves;
      waiting = λ c k h. elim (cases_eq c b) [
        | inl q ↦ elim (Contains-push_cases (list_at s.waiting b) node k (rw here at (rw q at h))) [
          | inl old ↦ let r = w.waiting c k (rw q old) in record { exists = r.exists; needs = r.needs; unknown = r.unknown }
          | inr same ↦ record { exists = subst (λ (n : ℕ). n < length nodes) same left.exists; needs = subst (λ (n : ℕ). Needs nodes n c) same (rw q (need_at nodes node at low)); unknown = rw q (scan.stops low) }
        ]
        | inr ne ↦
            let old = rw (list_set_other s.waiting b c (list_at s.waiting b ++ node ∷ []) ne) at h in
            let r = w.waiting c k old in record { exists = r.exists; needs = r.needs; unknown = r.unknown }
      ];
      placed = w.placed;
      each = λ k h. elim (w.each k h) [
        | inl r ↦ inl r
        | inr m ↦ inr (elim m [
          | inl c ↦ elim (moves_or node rest k c) [
            | inl q ↦ inr (b, rw here (subst (Contains (list_at s.waiting b ++ node ∷ [])) q (Contains-push (list_at s.waiting b) node)))
            | inr c' ↦ inl c'
          ]
          | inr c ↦ inr (c.0, kept c.0 k c.1)
        ])
      ];
    }

-- it is ready
pub swept_ready : (nodes : List Node) (s : Sweep) (node : ℕ) (rest : List ℕ) (at : ℕ) (new : BTreeSet ℕ) → IsSwept nodes s (node ∷ rest) → IsScan s.known (node_at nodes node).needs at →
    length (node_at nodes node).needs ≤ at → new.keys ≡ insert_key nat_cmp s.ready.keys node → Updates nat_cmp s.ready new node true →
    IsSwept nodes (record (scanned_to s node at) { ready = new }) rest
swept_ready nodes s node rest at new w scan far keys updates =
    let left : IsLeft nodes s.placed node = All-head (IsLeft nodes s.placed) node rest w.moves in
    let z = sized_scanned nodes s node at w.sized left.exists scan.scanned in
    let can : CanPlace nodes s node = record { left = left; known = all_scanned nodes s.known node at scan.scanned far } in
    let ready : All (CanPlace nodes s) new.keys = rw keys (All-insert_key nat_cmp node (CanPlace nodes s) s.ready.keys w.ready can) in
    record {
      sized = record { placed = z.placed; scans = z.scans; waiting = z.waiting; needs = z.needs; drives = z.drives; scanned = z.scanned };
      ready = λ i d h. let r = ready i d h in record { left = r.left; known = r.known };
      moves = All-tail (IsLeft nodes s.placed) node rest w.moves;
      waiting = λ c k h. let r = w.waiting c k h in record { exists = r.exists; needs = r.needs; unknown = r.unknown };
      placed = w.placed;
      each = λ k h. elim (w.each k h) [
        | inl r ↦ inl (has k (stays k (was k r)))
        | inr m ↦ elim m [
          | inl c ↦ elim (moves_or node rest k c) [
            | inl q ↦ inl (has k (subst (λ (n : ℕ). contains nat_cmp new n ≡ true) q updates.1))
            | inr c' ↦ inr (inl c')
          ]
          | inr c ↦ inr (inr c)
        ]
      ];
    }
  where
    was : (k : ℕ) → Contains s.ready.keys k → contains nat_cmp s.ready k ≡ true
    was k c = (btree_set_contains_iff nat_cmp_total exact_unsigned s.ready k).1 c

    has : (k : ℕ) → contains nat_cmp new k ≡ true → Contains new.keys k
    has k e = (btree_set_contains_iff nat_cmp_total exact_unsigned new k).0 e

    either : (b x : Bool) → x ≡ true → cond b true x ≡ true
    either true x e = refl
    either false x e = e

    stays : (k : ℕ) → contains nat_cmp s.ready k ≡ true → contains nat_cmp new k ≡ true
    stays k e = updates.0 k ∙ either _ (contains nat_cmp s.ready k) e

-- ---- a bit becomes known

known_more : (nodes : List Node) (flags : List Bool) (b k : ℕ) → b < length flags → AllKnown nodes flags k → AllKnown nodes (set flags b true) k
known_more nodes flags b k h a c n = on_set flags b c h (a c n)

pub swept_released : (nodes : List Node) (old new : Sweep) (b : ℕ) (moving more : List ℕ) → IsSwept nodes old moving → b < length old.known → Releases b old new moving more → IsSwept nodes new more
swept_released nodes old new b moving more w h r =
    subst (λ (s : Sweep). IsSwept nodes s more) (sym r.sweep) (rw r.loose released)
  where
    lists : List (List ℕ)
    lists = set old.waiting b []

    within : b < length old.waiting
    within = omega (arith, w.sized.waiting)

    waits : (c k : ℕ) → Contains (list_at (set old.waiting b []) c) k → WaitsFor nodes (record old { known = set old.known b true; waiting = set old.waiting b [] }) c k
    waits c k m = elim (cases_eq c b) [
      | inl q ↦ let none = rw (list_set_same old.waiting b [] within) at (rw q at m) in absurd (omega (arith, none.1))
      | inr ne ↦
          let was = w.waiting c k (rw (list_set_other old.waiting b c [] ne) at m) in
          record { exists = was.exists; needs = was.needs; unknown = get_or-set_other old.known b c true false ne ∙ was.unknown }
    ]

    left_of : (k : ℕ) → Contains (list_at old.waiting b) k → IsLeft nodes old.placed k
    left_of k m =
        let was = w.waiting b k m in
        record {
          exists = was.exists;
          unplaced = elim (cases_Bool (on old.placed k)) [
            | inl known ↦ absurd (true≢false (sym (w.placed k known b was.needs) ∙ was.unknown))
            | inr off ↦ off
          ];
        }

    released : IsSwept nodes (record old { known = set old.known b true; waiting = set old.waiting b [] }) (moving ++ list_at old.waiting b)
    released = record {
      sized = record {
        placed = w.sized.placed;
        scans = w.sized.scans;
        waiting = length-set old.waiting b [] ∙ w.sized.waiting ∙ sym (length-set old.known b true);
        needs = λ k c n. rw (length-set old.known b true) (w.sized.needs k c n);
        drives = λ k. rw (length-set old.known b true) (w.sized.drives k);
        scanned = λ k. let s = w.sized.scanned k in record { within = s.within; known = λ j l. on_set old.known b _ h (s.known j l) };
      };
      ready = λ i d l. let c = w.ready i d l in record { left = c.left; known = known_more nodes old.known b _ h c.known };
      moves = All-append (IsLeft nodes old.placed) moving (list_at old.waiting b) w.moves
          (λ i d l. left_of _ (Contains-get_or (list_at old.waiting b) i d l));
      waiting = waits;
      placed = λ k e. known_more nodes old.known b k h (w.placed k e);
      each = λ k l. elim (w.each k l) [
        | inl c ↦ inl c
        | inr m ↦ inr (elim m [
          | inl c ↦ inl (Contains-append_left moving (list_at old.waiting b) k c)
          | inr c ↦ elim (cases_eq c.0 b) [
            | inl q ↦ inl (Contains-append_right moving (list_at old.waiting b) k (rw q at c.1))
            | inr ne ↦ inr (c.0, rw (list_set_other old.waiting b c.0 [] ne) c.1)
          ]
        ])
      ];
    }

-- one more of the bits
pub raised_more : (bits : List ℕ) (i : ℕ) (old new : List Bool) → i < length bits → get_or bits i 0 < length new → IsRaised bits i old new → IsRaised bits (i + 1) old (set new (get_or bits i 0) true)
raised_more bits i old new low within r = record {
  size = length-set new (get_or bits i 0) true ∙ r.size;
  raised = λ j h. elim (cases_eq j i) [
    | inl q ↦ rw q (get_or-set_same new (get_or bits i 0) true false within)
    | inr ne ↦ on_set new (get_or bits i 0) (get_or bits j 0) within (r.raised j (omega arith))
  ];
  kept = λ b e. on_set new (get_or bits i 0) b within (r.kept b e);
  only = λ b e. elim (on_set_cases new (get_or bits i 0) b e) [
    | inl q ↦ inr (rw q (Contains-get_or bits i 0 low))
    | inr was ↦ r.only b was
  ];
}

pub raised_none : (bits : List ℕ) (flags : List Bool) → IsRaised bits 0 flags flags
raised_none bits flags = record { size = refl; raised = λ j h. absurd (omega arith); kept = λ b e. e; only = λ b e. inl e }
