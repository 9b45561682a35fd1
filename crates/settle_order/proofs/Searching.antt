-- The search back from a bit.
use Rattle.std.proofs.Common.{◌≡◌, ◌≢◌, ℕ, ◌+◌, ◌<◌, ◌≤◌, inl, inr, Bool, true, false, List, [], ◌∷◌, ◌++◌, Option, None, Some, length, get_or, set, refl, sym, ap, ◌∙◌, subst, arith}
use Rattle.std.proofs.lemmas.Bool.{cases_eq, cases_lt, true≢false, false≢true}
use Rattle.std.proofs.lemmas.List.{get_or_append_left, get_or_push, get_or-set_same, get_or_default, length-set, length_push}
use Rattle.std.proofs.lemmas.List.Elements.{All-push}
use Rattle.settle_order.specs.declared.nodes.Node.{Node}
use Rattle.settle_order.specs.declared.search.Step.{Step}
use Rattle.settle_order.specs.Nodes.{node_at, Needs, IsTable}
use Rattle.settle_order.specs.Loops.{Feeds, IsChain, IsLooped}
use Rattle.settle_order.specs.Search.{step_at, AreSteps, IsExpanded, IsPassed, IsSearched, IsLoopOf, Expands}
use Rattle.settle_order.specs.Sweeping.{on, down}
use Rattle.settle_order.proofs.Flags.{on_set, on_set_cases, down_set}
use Rattle.settle_order.proofs.Chains.{chain_push}
use Rattle.settle_order.proofs.Tables.{drives_exist}

step_before : (steps : List Step) (s : Step) (i : ℕ) → i < length steps → step_at (steps ++ s ∷ []) i ≡ step_at steps i
step_before steps s i h = get_or_append_left steps (s ∷ []) (record { bit = 0; toward = 0 }) i h

step_last : (steps : List Step) (s : Step) → step_at (steps ++ s ∷ []) (length steps) ≡ s
step_last steps s = get_or_push steps s (record { bit = 0; toward = 0 }) (length steps) refl

-- one more step, to a bit that feeds the one at a place
pub searched_more : (nodes : List Node) (c bits x at : ℕ) (seen : List Bool) (steps : List Step) → IsSearched nodes c bits seen steps at → at < length steps → x < bits → Feeds nodes x (step_at steps at).bit →
    IsSearched nodes c bits (set seen x true) (steps ++ record { bit = x; toward = at } ∷ []) at
searched_more nodes c bits x at seen steps s there within f = record {
  formed = record {
    some = omega (arith, length_push steps new);
    first = ap (λ (t : Step). t.bit) (step_before steps new 0 s.formed.some) ∙ s.formed.first;
    within = All-push (λ (t : Step). t.bit < bits) steps new s.formed.within within;
    earlier = λ i low high. elim (cases_lt i (length steps)) [
      | inl old ↦ rw (step_before steps new i old) (s.formed.earlier i low old)
      | inr far ↦ let q : i ≡ length steps = omega (arith, length_push steps new) in rw q (rw (step_last steps new) there)
    ];
    feeds = λ i low high. elim (cases_lt i (length steps)) [
      | inl old ↦
          let before : (step_at steps i).toward < length steps = omega (arith, s.formed.earlier i low old) in
          rw (step_before steps new i old) (rw (step_before steps new (step_at steps i).toward before) (s.formed.feeds i low old))
      | inr far ↦ let q : i ≡ length steps = omega (arith, length_push steps new) in rw q (rw (step_last steps new) (rw (step_before steps new at there) f))
    ];
  };
  size = length-set seen x true ∙ s.size;
  stepped = λ y e. elim (on_set_cases seen x y e) [
    | inl q ↦ (length steps, omega (arith, length_push steps new), ap (λ (t : Step). t.bit) (step_last steps new) ∙ sym q)
    | inr was ↦
        let w = s.stepped y was in
        (w.0, omega (arith, w.1, length_push steps new), ap (λ (t : Step). t.bit) (step_before steps new w.0 w.1) ∙ w.2)
  ];
  expanded = λ i low high y g.
      let old : i < length steps = omega arith in
      let e = s.expanded i low old y (rw (step_before steps new i old) at g) in
      (e.0, on_set seen x y (omega (arith, s.size)) e.1);
}
  where
    new : Step
    new = record { bit = x; toward = at }

-- one more need was seen
pub passed_more : (needs : List ℕ) (i c : ℕ) (seen more : List Bool) → ((x : ℕ) → on seen x ≡ true → on more x ≡ true) → get_or needs i 0 ≢ c → on more (get_or needs i 0) ≡ true →
    IsPassed needs i c seen → IsPassed needs (i + 1) c more
passed_more needs i c seen more kept ne e p = record {
  apart = λ j h. elim (cases_eq j i) [
    | inl q ↦ rw q ne
    | inr other ↦ p.apart j (omega arith)
  ];
  seen_all = λ j h. elim (cases_eq j i) [
    | inl q ↦ rw q e
    | inr other ↦ kept (get_or needs j 0) (p.seen_all j (omega arith))
  ];
}

-- what feeds a bit is a need of its driver
pub fed_by : (nodes : List Node) (bits driver x y : ℕ) (table : List (Option ℕ)) → IsTable nodes bits (length nodes) table → get_or table y None ≡ Some driver → Feeds nodes x y → Needs nodes driver x
fed_by nodes bits driver x y table t e f =
    let other : get_or table y None ≡ Some f.by = t.each f.by y (drives_exist nodes f.by y f.drives) f.drives in
    let q : f.by ≡ driver = cc in
    subst (λ (k : ℕ). Needs nodes k x) q f.needs

pub expanded_all : (nodes : List Node) (bits driver c y : ℕ) (table : List (Option ℕ)) (seen : List Bool) → IsTable nodes bits (length nodes) table → get_or table y None ≡ Some driver →
    IsPassed (node_at nodes driver).needs (length (node_at nodes driver).needs) c seen → IsExpanded nodes c seen y
expanded_all nodes bits driver c y table seen t e p x f =
    let n = fed_by nodes bits driver x y table t e f in
    let is : get_or (node_at nodes driver).needs n.0 0 ≡ x = get_or_default (node_at nodes driver).needs n.0 0 x n.1 ∙ n.2 in
    (rw is at (p.apart n.0 n.1), rw is at (p.seen_all n.0 n.1))

-- the step at a place is expanded too
pub searched_next : (nodes : List Node) (c bits at : ℕ) (seen : List Bool) (steps : List Step) → IsSearched nodes c bits seen steps at → IsExpanded nodes c seen (step_at steps at).bit → IsSearched nodes c bits seen steps (at + 1)
searched_next nodes c bits at seen steps s e = record {
  formed = s.formed;
  size = s.size;
  stepped = s.stepped;
  expanded = λ i low high. elim (cases_eq i at) [
    | inl q ↦ rw q e
    | inr ne ↦ s.expanded i (omega arith) high
  ];
}

abbrev IsStepped : List Step → ℕ → Type 0
IsStepped steps y = (i : ℕ) × (i < length steps) × ((step_at steps i).bit ≡ y)

-- all steps are expanded: c feeds none of them
pub searched_all : (nodes : List Node) (c bits at : ℕ) (seen : List Bool) (steps : List Step) → IsSearched nodes c bits seen steps at → length steps ≤ at → IsLooped nodes c → ⊥
searched_all nodes c bits at seen steps s far loop =
    (back c loop.0 c loop.1 (0, s.formed.some, s.formed.first)).0 refl
  where
    one : (x y : ℕ) → Feeds nodes x y → IsStepped steps y → (x ≢ c) × (on seen x ≡ true)
    one x y f i = s.expanded i.0 (omega (arith, i.1)) i.1 x (subst (λ (b : ℕ). Feeds nodes x b) (sym i.2) f)

    back : (x : ℕ) (xs : List ℕ) (y : ℕ) → IsChain nodes x xs y → IsStepped steps y → (x ≢ c) × (on seen x ≡ true)
    back x [] y f i = one x y f i
    back x (z ∷ zs) y h i = one x z h.0 (s.stepped z (back z zs y h.1 i).1)

-- the chain that came back to the first step is a loop
pub loop_at_first : (nodes : List Node) (c bits : ℕ) (rest found : List ℕ) (steps : List Step) (at : ℕ) → found ≡ c ∷ rest → AreSteps nodes c bits steps → at ≡ 0 → IsChain nodes c rest (step_at steps at).bit → IsLoopOf nodes c found
loop_at_first nodes c bits rest found steps at is s first chain =
    let here : (step_at steps at).bit ≡ c = ap (λ (i : ℕ). (step_at steps i).bit) first ∙ s.first in
    subst (IsLoopOf nodes c) (sym is) (refl, subst (IsChain nodes c rest) here chain)

-- ---- going on from a step

-- the first needs of the driver of a step's bit are seen
pub record IsExpanding (nodes : List Node) (c bits at : ℕ) (needs : List ℕ) (seen : List Bool) (steps : List Step) (index : ℕ) (new_seen : List Bool) (new_steps : List Step) : Type 0 where
  pub searched : IsSearched nodes c bits new_seen new_steps at
  pub there : at < length new_steps
  pub same : (step_at new_steps at).bit ≡ (step_at steps at).bit
  pub passed : IsPassed needs index c new_seen
  pub count : down new_seen + length new_steps ≡ down seen + length steps

pub expanding_seen : (nodes : List Node) (c bits at : ℕ) (needs : List ℕ) (seen : List Bool) (steps : List Step) (i : ℕ) (new_seen : List Bool) (new_steps : List Step) → IsExpanding nodes c bits at needs seen steps i new_seen new_steps →
    get_or needs i 0 ≢ c → on new_seen (get_or needs i 0) ≡ true → IsExpanding nodes c bits at needs seen steps (i + 1) new_seen new_steps
expanding_seen nodes c bits at needs seen steps i new_seen new_steps e ne up = record {
  searched = e.searched;
  there = e.there;
  same = e.same;
  passed = passed_more needs i c new_seen new_seen (λ x h. h) ne up e.passed;
  count = e.count;
}

pub expanding_new : (nodes : List Node) (c bits at : ℕ) (needs : List ℕ) (seen : List Bool) (steps : List Step) (i : ℕ) (new_seen : List Bool) (new_steps : List Step) → IsExpanding nodes c bits at needs seen steps i new_seen new_steps →
    get_or needs i 0 ≢ c → on new_seen (get_or needs i 0) ≡ false → get_or needs i 0 < bits → Feeds nodes (get_or needs i 0) (step_at steps at).bit →
    IsExpanding nodes c bits at needs seen steps (i + 1) (set new_seen (get_or needs i 0) true) (new_steps ++ record { bit = get_or needs i 0; toward = at } ∷ [])
expanding_new nodes c bits at needs seen steps i new_seen new_steps e ne off within f =
    let x = get_or needs i 0 in
    let low : get_or needs i 0 < length new_seen = omega (arith, e.searched.size) in
    record {
      searched = searched_more nodes c bits x at new_seen new_steps e.searched e.there within (subst (λ (y : ℕ). Feeds nodes x y) (sym e.same) f);
      there = omega (arith, e.there, length_push new_steps (record { bit = x; toward = at }));
      same = ap (λ (t : Step). t.bit) (step_before new_steps (record { bit = x; toward = at }) at e.there) ∙ e.same;
      passed = passed_more needs i c new_seen (set new_seen x true) (λ y h. on_set new_seen x y low h) ne (get_or-set_same new_seen x true false low) e.passed;
      count = omega (arith, e.count, down_set new_seen x low off, length_push new_steps (record { bit = x; toward = at }));
    }

pub expands_none : (nodes : List Node) (c bits at : ℕ) (seen : List Bool) (steps : List Step) → IsSearched nodes c bits seen steps at → at < length steps → ((x : ℕ) → Feeds nodes x (step_at steps at).bit → ⊥) → Expands nodes c bits at seen steps seen steps false
expands_none nodes c bits at seen steps s there none = record {
  formed = s.formed;
  there = there;
  feeds = λ e. absurd (false≢true e);
  searched = λ e. searched_next nodes c bits at seen steps s (λ x f. absurd (none x f));
  count = refl;
}

pub expands_found : (nodes : List Node) (c bits at : ℕ) (needs : List ℕ) (seen : List Bool) (steps : List Step) (i : ℕ) (new_seen : List Bool) (new_steps : List Step) → IsExpanding nodes c bits at needs seen steps i new_seen new_steps →
    Feeds nodes c (step_at steps at).bit → Expands nodes c bits at seen steps new_seen new_steps true
expands_found nodes c bits at needs seen steps i new_seen new_steps e f = record {
  formed = e.searched.formed;
  there = e.there;
  feeds = λ yes'. subst (λ (y : ℕ). Feeds nodes c y) (sym e.same) f;
  searched = λ q. absurd (true≢false q);
  count = e.count;
}

pub expands_all : (nodes : List Node) (c bits at driver : ℕ) (table : List (Option ℕ)) (seen : List Bool) (steps : List Step) (i : ℕ) (new_seen : List Bool) (new_steps : List Step) → IsTable nodes bits (length nodes) table → get_or table (step_at steps at).bit None ≡ Some driver →
    IsExpanding nodes c bits at (node_at nodes driver).needs seen steps i new_seen new_steps → length (node_at nodes driver).needs ≡ i → Expands nodes c bits at seen steps new_seen new_steps false
expands_all nodes c bits at driver table seen steps i new_seen new_steps t d e all = record {
  formed = e.searched.formed;
  there = e.there;
  feeds = λ q. absurd (false≢true q);
  searched = λ q. searched_next nodes c bits at new_seen new_steps e.searched
      (expanded_all nodes bits driver c (step_at new_steps at).bit table new_seen t (ap (λ (y : ℕ). get_or table y None) e.same ∙ d) (subst (λ (n : ℕ). IsPassed (node_at nodes driver).needs n c new_seen) (sym all) e.passed));
  count = e.count;
}

-- ---- back to the first step

-- the bits found so far, from c to the bit of a step
abbrev pub HasBack : ℕ → List Step → ℕ → ℕ → List ℕ → Type 0
HasBack c steps first at found =
    (rest : List ℕ) × (found ≡ c ∷ rest) × ((nodes : List Node) (bits : ℕ) → AreSteps nodes c bits steps → Feeds nodes c (step_at steps first).bit → IsChain nodes c rest (step_at steps at).bit)

pub back_more : (c : ℕ) (steps : List Step) (first at : ℕ) (found new : List ℕ) → HasBack c steps first at found → 0 < at → at < length steps → new ≡ found ++ (step_at steps at).bit ∷ [] → HasBack c steps first (step_at steps at).toward new
back_more c steps first at found new b low high e =
    let x = (step_at steps at).bit in
    (b.0 ++ x ∷ [], e ∙ ap (λ (l : List ℕ). l ++ x ∷ []) b.1, λ nodes bits s f. chain_push nodes c b.0 x _ (b.2 nodes bits s f) (s.feeds at low high))
