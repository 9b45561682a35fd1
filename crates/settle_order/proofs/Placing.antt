-- Nodes are placed in their order.
use Rattle.std.proofs.Common.{◌≡◌, ℕ, ◌<◌, ◌⊎◌, inl, inr, Bool, true, false, List, [], ◌∷◌, ◌++◌, Option, None, Some, length, get_or, set, replicate, refl, sym, ◌∙◌, subst, arith}
use Rattle.std.specs.Prelude.{Contains, All}
use Rattle.std.specs.BTreeSet.{BTreeSet}
use Rattle.std.specs.declared.cmp.Ordering.TheVariants.{Less}
use Rattle.std.specs.Ordering.{nat_cmp}
use Rattle.std.proofs.lemmas.Bool.{cases_lt, cases_Bool, true≢false, le-ltb}
use Rattle.std.proofs.lemmas.Bool.Decides.{nat_tests}
use Rattle.std.proofs.lemmas.List.{get_or-set_same, get_or-set_other, length-set, get_or-replicate, get_or_past, get_or_default, length-replicate}
use Rattle.std.proofs.lemmas.List.Elements.{All-nil, All-head, All-tail, All-contains, All-cons, Contains-get_or, Contains-push, Contains-push_cases, Contains-append_left}
use Rattle.settle_order.specs.declared.nodes.Node.{Node}
use Rattle.settle_order.specs.declared.sweep.Sweep.{Sweep}
use Rattle.settle_order.specs.Nodes.{node_at, Needs, Drives, IsNet, IsTable}
use Rattle.settle_order.specs.Orders.{IsKnown, IsReady, IsNext, IsOrder}
use Rattle.settle_order.specs.Loops.{Feeds, IsChain}
use Rattle.settle_order.specs.Sweeping.{on, list_at, IsScan, AllKnown, IsSized, IsLeft, CanPlace, WaitsFor, IsSwept, IsOrdered, IsStuck, IsUndriven, IsRaised}
use Rattle.settle_order.proofs.Flags.{on_set, on_set_cases, off_before, none_on}
use Rattle.settle_order.proofs.Tables.{drives_exist}
use Rattle.settle_order.proofs.Chains.{known_before, placing_push}
use Rattle.settle_order.proofs.Watching.{all_scanned, moves_or}

less : (a b : ℕ) → nat_cmp a b ≡ Less → a < b
less a b e = elim (cases_lt a b) [
  | inl low ↦ low
  | inr high ↦ grind (arith, nat_tests, le-ltb a b high)
]

-- ---- the lowest ready node

pub popped : (nodes : List Node) (s : Sweep) (node : ℕ) (new : BTreeSet ℕ) → IsSwept nodes s [] → s.ready.keys ≡ node ∷ new.keys → IsSwept nodes (record s { ready = new }) (node ∷ [])
popped nodes s node new w keys =
    let ready : All (CanPlace nodes s) (node ∷ new.keys) = subst (All (CanPlace nodes s)) keys w.ready in
    record {
      sized = record { placed = w.sized.placed; scans = w.sized.scans; waiting = w.sized.waiting; needs = w.sized.needs; drives = w.sized.drives; scanned = w.sized.scanned };
      ready = λ i d h. let r = All-tail (CanPlace nodes s) node new.keys ready i d h in record { left = r.left; known = r.known };
      moves = All-cons (IsLeft nodes s.placed) node [] (All-head (CanPlace nodes s) node new.keys ready).left (All-nil (IsLeft nodes s.placed));
      waiting = λ b k c. let r = w.waiting b k c in record { exists = r.exists; needs = r.needs; unknown = r.unknown };
      placed = w.placed;
      each = λ k l. elim (w.each k l) [
        | inl c ↦ elim (moves_or node new.keys k (rw keys at c)) [
          | inl q ↦ inr (inl (0, omega arith, q))
          | inr c' ↦ inl c'
        ]
        | inr m ↦ elim m [
          | inl c ↦ absurd (omega (arith, c.1))
          | inr c ↦ inr (inr c)
        ]
      ];
    }

pub popped_known : (nodes : List Node) (s : Sweep) (node : ℕ) (new : BTreeSet ℕ) → IsSwept nodes s [] → s.ready.keys ≡ node ∷ new.keys → AllKnown nodes s.known node
popped_known nodes s node new w keys = (All-head (CanPlace nodes s) node new.keys (subst (All (CanPlace nodes s)) keys w.ready)).known

known_needs : (nodes : List Node) (s : Sweep) (k : ℕ) → IsSized nodes s → IsOrdered nodes s → AllKnown nodes s.known k → (b : ℕ) → Needs nodes k b → IsKnown nodes s.order b
known_needs nodes s k z o a b n = (o.known b (z.needs k b n)).0 (a b n)

pub popped_next : (nodes : List Node) (s : Sweep) (node : ℕ) (new : BTreeSet ℕ) → IsSwept nodes s [] → IsOrdered nodes s → s.ready.keys ≡ node ∷ new.keys → All (λ q. nat_cmp node q ≡ Less) new.keys → IsNext nodes s.order node
popped_next nodes s node new w o keys above =
    let can : CanPlace nodes s node = All-head (CanPlace nodes s) node new.keys (subst (All (CanPlace nodes s)) keys w.ready) in
    record {
      ready = record {
        exists = can.left.exists;
        unplaced = λ c. true≢false (sym ((o.placed node).0 c) ∙ can.left.unplaced);
        known = known_needs nodes s node w.sized o can.known;
      };
      lowest = λ j r. elim (w.each j (left_of j r)) [
        | inl c ↦ elim (moves_or node new.keys j (rw keys at c)) [
          | inl q ↦ omega arith
          | inr c' ↦ omega (arith, less node j (All-contains (λ q. nat_cmp node q ≡ Less) new.keys j above c'))
        ]
        | inr m ↦ elim m [
          | inl c ↦ absurd (omega (arith, c.1))
          | inr c ↦
              let waits = w.waiting c.0 j c.1 in
              absurd (true≢false (sym ((o.known c.0 (w.sized.needs j c.0 waits.needs)).1 (r.known c.0 waits.needs)) ∙ waits.unknown))
        ]
      ];
    }
  where
    left_of : (j : ℕ) → IsReady nodes s.order j → IsLeft nodes s.placed j
    left_of j r = record {
      exists = r.exists;
      unplaced = elim (cases_Bool (on s.placed j)) [
        | inl up ↦ absurd (r.unplaced ((o.placed j).1 up))
        | inr off ↦ off
      ];
    }

-- ---- it is placed

pub placed_swept : (nodes : List Node) (s : Sweep) (node : ℕ) → IsSwept nodes s (node ∷ []) → AllKnown nodes s.known node → (Contains s.ready.keys node → ⊥) →
    IsSwept nodes (record s { placed = set s.placed node true; order = s.order ++ node ∷ [] }) []
placed_swept nodes s node w a apart = record {
  sized = record { placed = length-set s.placed node true ∙ w.sized.placed; scans = w.sized.scans; waiting = w.sized.waiting; needs = w.sized.needs; drives = w.sized.drives; scanned = w.sized.scanned };
  ready = λ i d h.
      let r = w.ready i d h in
      record { left = record { exists = r.left.exists; unplaced = still (get_or s.ready.keys i d) (λ q. apart (rw q at (Contains-get_or s.ready.keys i d h))) r.left.unplaced }; known = r.known };
  moves = All-nil (IsLeft nodes (set s.placed node true));
  waiting = λ b k c. let r = w.waiting b k c in record { exists = r.exists; needs = r.needs; unknown = r.unknown };
  placed = λ k e. elim (on_set_cases s.placed node k e) [
    | inl q ↦ rw q a
    | inr was ↦ w.placed k was
  ];
  each = λ k l. elim (w.each k (record { exists = l.exists; unplaced = off_before s.placed node k within l.unplaced })) [
    | inl c ↦ inl c
    | inr m ↦ elim m [
      | inl c ↦ elim (moves_or node [] k c) [
        | inl q ↦ absurd (true≢false (sym (get_or-set_same s.placed node true false within) ∙ (rw (sym q) at l.unplaced)))
        | inr none ↦ absurd (omega (arith, none.1))
      ]
      | inr c ↦ inr (inr c)
    ]
  ];
}
  where
    within : node < length s.placed
    within = omega (arith, w.sized.placed, (All-head (IsLeft nodes s.placed) node [] w.moves).exists)

    still : (k : ℕ) → (k ≡ node → ⊥) → on s.placed k ≡ false → on (set s.placed node true) k ≡ false
    still k ne e = get_or-set_other s.placed node k true false ne ∙ e

pub ordered_next : (nodes : List Node) (bits : ℕ) (s t : Sweep) (node : ℕ) → IsNet nodes bits → IsSized nodes s → IsOrdered nodes s → IsNext nodes s.order node →
    t.order ≡ s.order ++ node ∷ [] → t.placed ≡ set s.placed node true → IsRaised (node_at nodes node).drives (length (node_at nodes node).drives) s.known t.known → IsOrdered nodes t
ordered_next nodes bits s t node net z o next order placed raised = record {
  placing = rw order (placing_push nodes [] s.order node o.placing next);
  placed = λ k. (
    (λ c. rw placed (elim (Contains-push_cases s.order node k (rw order at c)) [
      | inl was ↦ on_set s.placed node k within ((o.placed k).0 was)
      | inr q ↦ rw (← q) (get_or-set_same s.placed node true false within)
    ])),
    (λ e. rw order (elim (on_set_cases s.placed node k (rw placed at e)) [
      | inl q ↦ rw q (Contains-push s.order node)
      | inr was ↦ Contains-append_left s.order (node ∷ []) k ((o.placed k).1 was)
    ])),
  );
  known = λ b h. ((λ e. rw order (gives b h e)), (λ k. found b h (rw order at k)));
}
  where
    within : node < length s.placed
    within = omega (arith, z.placed, next.ready.exists)

    gives : (b : ℕ) → b < length t.known → on t.known b ≡ true → IsKnown nodes (s.order ++ node ∷ []) b
    gives b h e = elim (raised.only b e) [
      | inl was ↦ λ k d. Contains-append_left s.order (node ∷ []) k ((o.known b (omega (arith, raised.size))).0 was k d)
      | inr c ↦ known_before nodes bits (s.order ++ node ∷ []) node b net c (Contains-push s.order node)
    ]

    driven : (b : ℕ) → Drives nodes node b → on t.known b ≡ true
    driven b c =
        let is : get_or (node_at nodes node).drives c.0 0 ≡ b = get_or_default (node_at nodes node).drives c.0 0 b c.1 ∙ c.2 in
        rw (← is) (raised.raised c.0 c.1)

    before : (b : ℕ) → on t.known b ≡ false → IsKnown nodes (s.order ++ node ∷ []) b → IsKnown nodes s.order b
    before b off k j d = elim (Contains-push_cases s.order node j (k j d)) [
      | inl was ↦ was
      | inr q ↦ absurd (true≢false (sym (driven b (rw (sym q) at d)) ∙ off))
    ]

    found : (b : ℕ) → b < length t.known → IsKnown nodes (s.order ++ node ∷ []) b → on t.known b ≡ true
    found b h k = elim (cases_Bool (on t.known b)) [
      | inl up ↦ up
      | inr off ↦ absurd (true≢false (sym (raised.kept b ((o.known b (omega (arith, raised.size))).1 (before b off k))) ∙ off))
    ]

-- ---- the start

no_waiting : (bits b : ℕ) → list_at (replicate bits []) b ≡ []
no_waiting bits b = elim (cases_lt b bits) [
  | inl low ↦ get_or-replicate {A = List ℕ} bits b [] [] low
  | inr high ↦ get_or_past (replicate {A = List ℕ} bits []) b [] (omega (arith, length-replicate {A = List ℕ} bits []))
]

pub start_swept : (nodes : List Node) (s : Sweep) (all : List ℕ) → IsNet nodes (length s.known) → s.placed ≡ replicate (length nodes) false → s.scanned ≡ replicate (length nodes) 0 → s.waiting ≡ replicate (length s.known) [] →
    s.ready.keys ≡ [] → length all ≡ length nodes → ((k : ℕ) → k < length nodes → get_or all k 0 ≡ k) → IsSwept nodes s all
start_swept nodes s all net placed scanned waiting ready size each = record {
  sized = record {
    placed = rw placed (length-replicate (length nodes) false);
    scans = rw scanned (length-replicate {A = ℕ} (length nodes) 0);
    waiting = rw waiting (length-replicate {A = List ℕ} (length s.known) []);
    needs = net.needed;
    drives = λ k i d h. net.driven k _ (Contains-get_or (node_at nodes k).drives i d h);
    scanned = λ k. record { within = omega (arith, zero_at k); known = λ j h. absurd (omega (arith, zero_at k)) };
  };
  ready = subst (All (CanPlace nodes s)) (sym ready) (All-nil (CanPlace nodes s));
  moves = λ i d h. moved i (get_or all i d) (get_or_default all i d 0 h ∙ each i (omega arith)) (omega arith);
  waiting = λ b k c. let none = rw (waiting, no_waiting (length s.known) b) at c in absurd (omega (arith, none.1));
  placed = λ k e. absurd (none_on (length nodes) k (rw placed at e));
  each = λ k l. inr (inl (k, omega (arith, l.exists), get_or_default all k k 0 (omega (arith, l.exists)) ∙ each k l.exists));
}
  where
    zero_at : (k : ℕ) → get_or s.scanned k 0 ≡ 0
    zero_at k = rw scanned (elim (cases_lt k (length nodes)) [
      | inl low ↦ get_or-replicate {A = ℕ} (length nodes) k 0 0 low
      | inr high ↦ get_or_past (replicate {A = ℕ} (length nodes) 0) k 0 (omega (arith, length-replicate {A = ℕ} (length nodes) 0))
    ])

    off : (k : ℕ) → k < length nodes → on s.placed k ≡ false
    off k h = rw placed (get_or-replicate (length nodes) k false false h)

    moved : (i k : ℕ) → k ≡ i → i < length nodes → IsLeft nodes s.placed k
    moved i k q h = record { exists = omega arith; unplaced = off k (omega arith) }

some_or_none : {X : Type 0} (o : Option X) → (o ≡ None) ⊎ ((x : X) × (o ≡ Some x))
some_or_none None = inl refl
some_or_none (Some x) = inr (x, refl)

pub start_ordered : (nodes : List Node) (s : Sweep) (table : List (Option ℕ)) → IsTable nodes (length table) (length nodes) table → IsUndriven table s.known → s.order ≡ [] → s.placed ≡ replicate (length nodes) false → IsOrdered nodes s
start_ordered nodes s table t u order placed = record {
  placing = rw order tt;
  placed = λ k. ((λ c. let none = rw order at c in absurd (omega (arith, none.1))), (λ e. absurd (none_on (length nodes) k (rw placed at e))));
  known = λ b h. (
    (λ e k d.
        let none = (u.undriven b (omega (arith, u.size))).0 e in
        let some = t.each k b (drives_exist nodes k b d) d in
        absurd (differ b k none some)),
    (λ k. (u.undriven b (omega (arith, u.size))).1 (elim (some_or_none (get_or table b None)) [
      | inl none ↦ none
      | inr some ↦ let c = rw order at (k some.0 (t.drives some.0 b some.1)) in absurd (omega (arith, c.1))
    ])),
  );
}
  where
    differ : (b k : ℕ) → get_or table b None ≡ None → get_or table b None ≡ Some k → ⊥
    differ b k e f = cc

-- ---- no node can be placed

pub stuck_needs : (nodes : List Node) (bits : ℕ) (s : Sweep) (k : ℕ) → IsStuck nodes bits s → IsLeft nodes s.placed k → (b : ℕ) × WaitsFor nodes s b k
stuck_needs nodes bits s k u l = elim (u.swept.each k l) [
  | inl c ↦ let none = rw u.none at c in absurd (omega (arith, none.1))
  | inr m ↦ elim m [
    | inl c ↦ absurd (omega (arith, c.1))
    | inr c ↦ (c.0, u.swept.waiting c.0 k c.1)
  ]
]

-- so a need of it is found that isn't known
pub unknown_at : (nodes : List Node) (bits : ℕ) (s : Sweep) (k at : ℕ) → IsStuck nodes bits s → IsLeft nodes s.placed k → IsScan s.known (node_at nodes k).needs at → at < length (node_at nodes k).needs
unknown_at nodes bits s k at u l scan = elim (cases_lt at (length (node_at nodes k).needs)) [
  | inl low ↦ low
  | inr high ↦
      let w = stuck_needs nodes bits s k u l in
      absurd (true≢false (sym (all_scanned nodes s.known k at scan.scanned high w.0 w.1.needs) ∙ w.1.unknown))
]

pub left_driver : (nodes : List Node) (bits : ℕ) (s : Sweep) (k b : ℕ) → IsNet nodes bits → IsStuck nodes bits s → on s.known b ≡ false → Drives nodes k b → IsLeft nodes s.placed k
left_driver nodes bits s k b net u off d = record {
  exists = drives_exist nodes k b d;
  unplaced = elim (cases_Bool (on s.placed k)) [
    | inl up ↦
        let known = known_before nodes bits s.order k b net d ((u.ordered.placed k).1 up) in
        absurd (true≢false (sym ((u.ordered.known b (omega (arith, net.driven k b d, u.size))).1 known) ∙ off))
    | inr down ↦ down
  ];
}

pub has_driver : (nodes : List Node) (bits : ℕ) (s : Sweep) (table : List (Option ℕ)) (b : ℕ) → IsTable nodes bits (length nodes) table → IsStuck nodes bits s → b < bits → on s.known b ≡ false → (k : ℕ) × (get_or table b None ≡ Some k)
has_driver nodes bits s table b t u h off = elim (some_or_none (get_or table b None)) [
  | inl none ↦ absurd (true≢false (sym ((u.ordered.known b (omega (arith, u.size))).1 (λ k d. absurd (differ k none (t.each k b (drives_exist nodes k b d) d)))) ∙ off))
  | inr some ↦ some
]
  where
    differ : (k : ℕ) → get_or table b None ≡ None → get_or table b None ≡ Some k → ⊥
    differ k e f = cc

-- ---- the walk from a bit to what feeds it

abbrev HasChain : List Node → ℕ → ℕ → Type 0
HasChain nodes b x = (between : List ℕ) × IsChain nodes b between x

pub reaches_more : (nodes : List Node) (seen : List Bool) (bit next : ℕ) → Feeds nodes next bit → ((x : ℕ) → on seen x ≡ true → HasChain nodes bit x) → (x : ℕ) → on (set seen bit true) x ≡ true → HasChain nodes next x
reaches_more nodes seen bit next f reaches x e = elim (on_set_cases seen bit x e) [
  | inl q ↦ ([], rw q f)
  | inr was ↦ let r = reaches x was in (bit ∷ r.0, (f, r.1))
]

pub needs_within : (nodes : List Node) (s : Sweep) (k : ℕ) → IsSized nodes s → All (λ b. b < length s.known) (node_at nodes k).needs
needs_within nodes s k z i d h = z.needs k (get_or (node_at nodes k).needs i d) (Contains-get_or (node_at nodes k).needs i d h)

pub all_placed : (nodes : List Node) (bits : ℕ) (s : Sweep) → IsStuck nodes bits s → ((k : ℕ) → k < length s.placed → on s.placed k ≡ true) → IsOrder nodes s.order
all_placed nodes bits s u all = record {
  placing = u.ordered.placing;
  each = λ k h. (u.ordered.placed k).1 (all k (omega (arith, u.swept.sized.placed)));
}

pub popped_left : (nodes : List Node) (s : Sweep) (node : ℕ) (new : BTreeSet ℕ) → IsSwept nodes s [] → s.ready.keys ≡ node ∷ new.keys → IsLeft nodes s.placed node
popped_left nodes s node new w keys = (All-head (CanPlace nodes s) node new.keys (subst (All (CanPlace nodes s)) keys w.ready)).left

-- no node is ready
pub stuck : (nodes : List Node) (bits : ℕ) (s : Sweep) (new : BTreeSet ℕ) → IsSwept nodes s [] → IsOrdered nodes s → length s.known ≡ bits → new.keys ≡ s.ready.keys → s.ready.keys ≡ [] → IsStuck nodes bits (record s { ready = new })
stuck nodes bits s new w o size same none = record {
  swept = record {
    sized = record { placed = w.sized.placed; scans = w.sized.scans; waiting = w.sized.waiting; needs = w.sized.needs; drives = w.sized.drives; scanned = w.sized.scanned };
    ready = subst (All (CanPlace nodes (record s { ready = new }))) (sym (same ∙ none)) (All-nil (CanPlace nodes (record s { ready = new })));
    moves = w.moves;
    waiting = λ b k c. let r = w.waiting b k c in record { exists = r.exists; needs = r.needs; unknown = r.unknown };
    placed = w.placed;
    each = λ k l. elim (w.each k l) [
      | inl c ↦ inl (rw same c)
      | inr m ↦ inr m
    ];
  };
  ordered = record { placing = o.placing; placed = o.placed; known = o.known };
  size = size;
  none = same ∙ none;
}

pub keys_none : (keys : List ℕ) → (0 < length keys → false ≡ true) → keys ≡ []
keys_none [] v = refl
keys_none (k ∷ keys) v = absurd (true≢false (sym (v (omega arith))))
