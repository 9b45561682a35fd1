-- What a point needs is marked.
use Rattle.std.proofs.Common.{◌≡◌, ℕ, ◌+◌, ◌-◌, ◌/◌, ◌<◌, ◌≤◌, ◌⊎◌, inl, inr, nat_lt, zero, suc, Bool, true, false, cond, Some, List, [], ◌∷◌, ◌++◌, length, get_or, take, replicate, refl, sym, ap, ◌∙◌, subst, arith}
use Rattle.std.specs.Prelude.{All, Contains}
use Rattle.std.specs.List.{sum_by}
use Rattle.std.proofs.Math.ListN.{set}
use Rattle.std.proofs.lemmas.Bool.{cases_eq, true≢false, ltb-true}
use Rattle.std.proofs.lemmas.Bool.Decides.{nat_tests}
use Rattle.std.proofs.lemmas.List.{append-nil, get_or_append_left, get_or-set_same, get_or-set_other, get_or-replicate, length-set, length-replicate, length_push}
use Rattle.std.proofs.lemmas.List.Elements.{All-nil, All-pop, All-push, All-weaker, Contains-push, Contains-push_cases}
use Rattle.std.proofs.lemmas.List.Sums.{sum_by-set}
use Rattle.aig_core.specs.Graph.{IsLiteral, first_gate, node_count}
use Rattle.bit_system.specs.Machine.{Machine, IsMachine, next_literal, hit_literal}
use Rattle.bit_system.specs.Queries.{first_state}
use Rattle.bit_system.proofs.Earlier.{reads_at}
use Rattle.point_cone.specs.Reaching.{on, gate_of, reads, IsNeeded, hit, left, right, IsDone, IsUnder, IsReached, Reaches}

-- ---- what a node reads

abbrev Exist : Machine → ℕ × ℕ → Type 0
Exist m two = (IsLiteral m.graph two.0) × (IsLiteral m.graph two.1)

pub reads_exist : (m : Machine) (n : ℕ) → IsMachine m → n < node_count m.graph → Exist m (reads m n)
reads_exist m n v low = by (nat_lt n (first_state m)) (nat_lt n (first_gate m.graph)) refl refl
  where
    by : (a b : Bool) → nat_lt n (first_state m) ≡ a → nat_lt n (first_gate m.graph) ≡ b →
        Exist m (cond a (0, 0) (cond b (next_literal m (n - first_state m), next_literal m (n - first_state m)) ((gate_of m n).left, (gate_of m n).right)))
    by true b ea eb = (omega arith, omega arith)
    by false true ea eb =
        let from : first_state m ≤ n = grind (arith, nat_tests) in
        let below : n < first_gate m.graph = ltb-true n (first_gate m.graph) eb in
        let one : IsLiteral m.graph (next_literal m (n - first_state m)) = v.next_exist (n - first_state m) 0 (omega (arith, v.states, v.next_count)) in
        (one, one)
    by false false ea eb =
        let from : first_gate m.graph ≤ n = grind (arith, nat_tests) in
        let two = reads_at (first_gate m.graph) m.graph.gates (n - first_gate m.graph) (record { left = 0; right = 0 }) v.well_formed (omega arith) in
        (omega (arith, two.0), omega (arith, two.1))

-- ---- one more mark

pub on_within : (marks : List Bool) (n : ℕ) → on marks n ≡ true → n < length marks
on_within [] n e = absurd (true≢false (sym e))
on_within (b ∷ marks) zero e = omega arith
on_within (b ∷ marks) (suc n) e = omega (arith, on_within marks n e)

pub reaches_same : (node : ℕ) (marks : List Bool) (waiting : List ℕ) → on marks node ≡ true → Reaches node marks waiting marks waiting
reaches_same node marks waiting e = record {
  size = refl;
  marked = e;
  kept = λ n h. h;
  only = λ n h. inl h;
  waits = λ n h. h;
  in_range = λ most low a. a;
  all_marked = λ a. a;
  count = refl;
}

on_set : (marks : List Bool) (k n : ℕ) → k < length marks → on marks n ≡ true → on (set marks k true) n ≡ true
on_set marks k n h e = elim (cases_eq n k) [
  | inl q ↦ rw q (get_or-set_same marks k true false h)
  | inr ne ↦ get_or-set_other marks k n true false ne ∙ e
]

pub reaches_new : (node : ℕ) (marks : List Bool) (waiting : List ℕ) → node < length marks → on marks node ≡ false → Reaches node marks waiting (set marks node true) (waiting ++ node ∷ [])
reaches_new node marks waiting low off = record {
  size = length-set marks node true;
  marked = get_or-set_same marks node true false low;
  kept = λ n h. on_set marks node n low h;
  only = λ n h. elim (cases_eq n node) [
    | inl q ↦ inr (q, rw q (Contains-push waiting node))
    | inr ne ↦ inl (sym (get_or-set_other marks node n true false ne) ∙ h)
  ];
  waits = λ n h. contains_more waiting node n h;
  in_range = λ most h a. All-push (λ n. n < most) waiting node a h;
  all_marked = λ a. All-push (λ n. on (set marks node true) n ≡ true) waiting node
      (All-weaker (λ n. on marks n ≡ true) (λ n. on (set marks node true) n ≡ true) (λ n h. on_set marks node n low h) waiting a) (get_or-set_same marks node true false low);
  count =
      let sum : sum_by (λ (b : Bool). cond b 0 1) (set marks node true) + cond {A = ℕ} (get_or marks node false) 0 1 ≡ sum_by (λ (b : Bool). cond b 0 1) marks + 0 = sum_by-set (λ (b : Bool). cond b 0 1) marks node true false low in
      let one : cond {A = ℕ} (get_or marks node false) 0 1 ≡ 1 = ap (λ (b : Bool). cond {A = ℕ} b 0 1) off in
      omega (arith, sum, one, length_push waiting node);
}
  where
    contains_more : (xs : List ℕ) (y x : ℕ) → Contains xs x → Contains (xs ++ y ∷ []) x
    contains_more xs y x h = (h.0, omega (arith, h.1, length_push xs y), get_or_append_left xs (y ∷ []) x h.0 h.1 ∙ h.2)

-- ---- the walk through the nodes

pub under_start : (m : Machine) (point : ℕ) (marks : List Bool) (waiting : List ℕ) → IsMachine m → hit_literal m point / 2 < node_count m.graph →
    Reaches (hit_literal m point / 2) (replicate (node_count m.graph) false) [] marks waiting → IsUnder m point marks waiting
under_start m point marks waiting v low r = record {
  size = r.size ∙ length-replicate (node_count m.graph) false;
  in_range = r.in_range (node_count m.graph) low (All-nil (λ n. n < node_count m.graph));
  marked = r.all_marked (All-nil (λ n. on (replicate (node_count m.graph) false) n ≡ true));
  needed = λ n e. elim (r.only n e) [
    | inl was ↦ absurd (none n was)
    | inr new ↦ subst (IsNeeded m point) (sym new.0) (hit m point)
  ];
  each = λ n e. elim (r.only n e) [
    | inl was ↦ absurd (none n was)
    | inr new ↦ inl new.1
  ];
}
  where
    none : (n : ℕ) → on (replicate (node_count m.graph) false) n ≡ true → ⊥
    none n e =
        let within : n < node_count m.graph = omega (arith, on_within (replicate (node_count m.graph) false) n e, length-replicate (node_count m.graph) false) in
        true≢false (sym e ∙ get_or-replicate (node_count m.graph) n false false within)

done_more : (m : Machine) (a b : List Bool) (n : ℕ) → ((k : ℕ) → on a k ≡ true → on b k ≡ true) → IsDone m a n → IsDone m b n
done_more m a b n kept d = record { left = kept ((reads m n).0 / 2) d.left; right = kept ((reads m n).1 / 2) d.right }

pub under_more : (m : Machine) (point n : ℕ) (marks m1 m2 : List Bool) (rest w1 w2 : List ℕ) → IsMachine m → IsUnder m point marks (rest ++ n ∷ []) →
    Reaches ((reads m n).0 / 2) marks rest m1 w1 → Reaches ((reads m n).1 / 2) m1 w1 m2 w2 → IsUnder m point m2 w2
under_more m point n marks m1 m2 rest w1 w2 v u r s =
    let low : n < node_count m.graph = All-last (λ k. k < node_count m.graph) rest n u.in_range in
    let need : IsNeeded m point n = u.needed n (All-last (λ k. on marks k ≡ true) rest n u.marked) in
    let reads_low = reads_exist m n v low in
    record {
      size = s.size ∙ r.size ∙ u.size;
      in_range = s.in_range (node_count m.graph) (omega (arith, reads_low.1)) (r.in_range (node_count m.graph) (omega (arith, reads_low.0)) (All-front (λ k. k < node_count m.graph) rest n u.in_range));
      marked = s.all_marked (r.all_marked (All-front (λ k. on marks k ≡ true) rest n u.marked));
      needed = λ k e. elim (s.only k e) [
        | inl was ↦ elim (r.only k was) [
          | inl older ↦ u.needed k older
          | inr new ↦ subst (IsNeeded m point) (sym new.0) (left m point n need)
        ]
        | inr new ↦ subst (IsNeeded m point) (sym new.0) (right m point n need)
      ];
      each = λ k e. elim (s.only k e) [
        | inl was ↦ elim (r.only k was) [
          | inl older ↦ waits_or_done k (u.each k older)
          | inr new ↦ inl (s.waits k new.1)
        ]
        | inr new ↦ inl new.1
      ];
    }
  where
    All-last : (P : ℕ → Type 0) (xs : List ℕ) (x : ℕ) → All P (xs ++ x ∷ []) → P x
    All-last P xs x a = (All-pop P (xs ++ x ∷ []) xs (Some x) refl a).1

    All-front : (P : ℕ → Type 0) (xs : List ℕ) (x : ℕ) → All P (xs ++ x ∷ []) → All P xs
    All-front P xs x a = (All-pop P (xs ++ x ∷ []) xs (Some x) refl a).0

    waits_or_done : (k : ℕ) → Contains (rest ++ n ∷ []) k ⊎ IsDone m marks k → Contains w2 k ⊎ IsDone m m2 k
    waits_or_done k (inl c) = elim (Contains-push_cases rest n k c) [
      | inl h ↦ inl (s.waits k (r.waits k h))
      | inr q ↦ inr (subst (IsDone m m2) q (record { left = s.kept ((reads m n).0 / 2) r.marked; right = s.marked }))
    ]
    waits_or_done k (inr d) = inr (done_more m marks m2 k (λ j e. s.kept j (r.kept j e)) d)

-- nothing waits
pub under_end : (m : Machine) (point : ℕ) (marks : List Bool) → IsUnder m point marks [] → on marks (hit_literal m point / 2) ≡ true → IsReached m point marks
under_end m point marks u e = record {
  size = u.size;
  hit = e;
  needed = u.needed;
  done = λ n h. elim (u.each n h) [
    | inl c ↦ absurd (omega (arith, c.1))
    | inr d ↦ d
  ];
}

-- what `pop` says where nothing waits
pub none_left : (old new : List ℕ) (n : ℕ) → n ≡ 0 → old ≡ new ++ [] → new ≡ take (n - 1) old → old ≡ []
none_left old new n z o t =
    let none : n - 1 ≡ 0 = omega arith in
    o ∙ append-nil new ∙ t ∙ ap (λ (k : ℕ). take k old) none
