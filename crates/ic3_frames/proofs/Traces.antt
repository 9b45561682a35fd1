-- From obligations to a walk, and its first hit.
use Rattle.std.proofs.Common.{◌≡◌, ℕ, ◌+◌, ◌-◌, ◌<◌, ◌≤◌, zero, suc, Bool, true, false, not, cond, ◌&&◌, ◌||◌, Option, Some, None, List, [], ◌∷◌, map, take, length, get_or, refl, sym, ap, ◌∙◌, subst, arith, inl, inr}
use Rattle.std.specs.Prelude.{All as Each}
use Rattle.std.proofs.lemmas.Bool.{cases_eq, true≢false}
use Rattle.std.proofs.lemmas.List.{length-take-le, take-take, get_or-take}
use Rattle.std.proofs.lemmas.List.Elements.{All-nil, All-cons, All-head, All-tail, All-take}
use Rattle.bit_system.specs.declared.ladder.Depth.TheVariants.{Steps}
use Rattle.bit_system.specs.declared.ladder.StateLit.{StateLit}
use Rattle.bit_system.specs.declared.ladder.Lemma.{Lemma}
use Rattle.bit_system.specs.declared.system.StateInfo.{StateInfo}
use Rattle.bit_system.specs.Machine.{Machine, IsMachine, IsState, IsInput, IsStart, HitsAt, hit_literal, next_state, state_after, value_in_step}
use Rattle.bit_system.specs.Ladders.{lit_true, lemma_true}
use Rattle.bit_system.specs.Accepted.{starts_as}
use Rattle.generalise.specs.Cubes.{in_cube, HasBits, lemma_of, misses_start}
use Rattle.ic3_frames.specs.Full.{IsLike, or_else}
use Rattle.ic3_frames.specs.Lifted.{IsLifted}
use Rattle.ic3_frames.specs.Obligations.{IsObligation, Chain, LeadsInto}
use Rattle.ic3_frames.specs.Queries.{Hits, StepsInto, all_true_after}
use Rattle.ic3_frames.specs.Searching.{IsFirstHit, IsTrace}
use Rattle.ic3_frames.specs.Walks.{LeadsToHit, EndsAtFirstHit}
use Rattle.ic3_frames.specs.declared.obligation.Obligation.{Obligation}
use Rattle.ic3_frames.specs.declared.walk.Walk.{Walk}
use Rattle.ic3_frames.proofs.Bits.{is_state_after, all_after}
use Rattle.ic3_frames.proofs.Meaning.{outside_holds}
use Rattle.ic3_frames.proofs.Starts.{start_holds}
use Rattle.ic3_frames.proofs.Bits.{bits_opposite}

-- ---- a start like another state lies in a cube that doesn't miss the start

pub like_starts : (m : Machine) (state s : List Bool) → IsLike m state s → IsStart m s
like_starts m state s h = record {
  is_state = h.is_state;
  agrees = λ k b d low e.
      let P : Option Bool → Type 0 = λ o. get_or s k false ≡ or_else o (get_or state k false) in
      subst P e (h.has k d low);
}

stays : (o : Option Bool) (p v w : Bool) → w ≡ or_else o v → starts_as o (not p) ≡ false → cond p v (not v) ≡ true → cond p w (not w) ≡ true
stays None p v w e d h = rw e h
stays (Some true) true v w e d h = rw e refl
stays (Some true) false v w e d h = absurd cc
stays (Some false) true v w e d h = absurd cc
stays (Some false) false v w e d h = rw e refl

or-first : (a b : Bool) → (a || b) ≡ false → a ≡ false
or-first true b h = h
or-first false b h = refl

or-second : (a b : Bool) → (a || b) ≡ false → b ≡ false
or-second true b h = absurd cc
or-second false b h = h

and-first : (a b : Bool) → (a && b) ≡ true → a ≡ true
and-first true b h = refl
and-first false b h = h

and-second : (a b : Bool) → (a && b) ≡ true → b ≡ true
and-second true b h = h
and-second false b h = absurd cc

both : (a b : Bool) → a ≡ true → b ≡ true → (a && b) ≡ true
both true b p q = q
both false b p q = p

like-inside : (m : Machine) (state s : List Bool) (cube : List StateLit) → IsLike m state s → HasBits m cube →
    misses_start m cube ≡ false → in_cube state cube ≡ true → in_cube s cube ≡ true
like-inside m state s [] h r e i = refl
like-inside m state s (l ∷ ls) h r e i =
    let none : StateInfo = record { name = []; start = None } in
    let low : l.state < length m.states = All-head (λ (l : StateLit). l.state < length m.states) l ls r in
    both (lit_true s l) (in_cube s ls)
    (stays (get_or m.states l.state none).start l.positive (get_or state l.state false) (get_or s l.state false) (h.has l.state none low)
    (or-first (starts_as (get_or m.states l.state none).start (not l.positive)) (misses_start m ls) e) (and-first (lit_true state l) (in_cube state ls) i))
    (like-inside m state s ls h (All-tail (λ (l : StateLit). l.state < length m.states) l ls r)
    (or-second (starts_as (get_or m.states l.state none).start (not l.positive)) (misses_start m ls) e) (and-second (lit_true state l) (in_cube state ls) i))

-- ---- chains of obligations

chain-leads : (m : Machine) (point : ℕ) (v : IsMachine m) (s : List Bool) (o : Obligation) (os : List Obligation) → Chain m point (o ∷ os) → IsState m s → in_cube s o.cube ≡ true →
    LeadsToHit m point s (map (λ o. o.input) (o ∷ os))
chain-leads m point v s o [] c st h = (c.0.is_input, c.1 s st h)
chain-leads m point v s o (p ∷ ps) c st h = (c.0.is_input, chain-leads m point v (next_state m s o.input) p ps c.2 (is_state_after m v s o.input) (c.1 s st h))

pub trace_is : (m : Machine) (point : ℕ) (v : IsMachine m) (start : List Bool) (lines : List (List Bool)) (o : Obligation) (os : List Obligation) →
    Chain m point (o ∷ os) → misses_start m o.cube ≡ false → IsLike m o.state start → lines ≡ map (λ o. o.input) (o ∷ os) →
    IsTrace m point (record { start = start; lines = lines })
trace_is m point v start lines o os c e like same = record {
  starts = like_starts m o.state start like;
  leads = rw same (chain-leads m point v start o os c like.is_state (like-inside m o.state start o.cube like c.0.is_cube.in_range e c.0.inside));
}

obligation-is : (m : Machine) (state input : List Bool) (goal : List ℕ) (level : ℕ) (o : Obligation) → IsLifted m state input goal level o → IsState m state → IsInput m input →
    (level ≡ 0 → IsStart m state) → IsObligation m o
obligation-is m state input goal level o h st inp starts = record {
  is_state = rw h.state st;
  is_input = rw h.input inp;
  is_cube = h.is_cube;
  inside = rw h.state h.inside;
  starts = λ none. rw h.state (starts (sym h.level ∙ none));
}

pub chain_one : (m : Machine) (point depth : ℕ) (lemmas : List Lemma) (state input : List Bool) (o : Obligation) → Hits m point lemmas (Steps (depth + 1)) state input →
    IsLifted m state input (hit_literal m point ∷ []) depth o → Chain m point (o ∷ [])
chain_one m point depth lemmas state input o t h = (
  obligation-is m state input (hit_literal m point ∷ []) depth o h t.in_frame.is_state t.is_input
      (λ e. t.in_frame.starts (let none : depth + 1 - 1 ≡ 0 = omega arith in ap (λ (k : ℕ). Steps k) none)),
  λ s is inside. rw h.input (All-head (λ x. value_in_step m s input x ≡ true) (hit_literal m point) [] (h.forces s is inside)),
  tt,
)

pub chain_next : (m : Machine) (point : ℕ) (v : IsMachine m) (state input : List Bool) (o first : Obligation) (rest new : List Obligation) →
    Chain m point (first ∷ rest) → IsLifted m state input (all_true_after m first.cube) (first.level - 1) o → LeadsInto m first.cube state input →
    0 < first.level → (first.level ≡ 1 → IsStart m state) → new ≡ o ∷ first ∷ rest → Chain m point new
chain_next m point v state input o first rest new c h into low starts same = rw same (
  obligation-is m state input (all_true_after m first.cube) (first.level - 1) o h into.is_state into.is_input (λ e. starts (omega arith)),
  λ s is inside. rw h.input (all_after m v s input first.cube c.0.is_cube.in_range (h.forces s is inside)),
  c,
)

-- a step from the frame before level 1 begins at a start
pub starts_before : (m : Machine) (lemmas : List Lemma) (level : ℕ) (cube : List StateLit) (state input : List Bool) → StepsInto m lemmas (Steps level) cube state input → level ≡ 1 → IsStart m state
starts_before m lemmas level cube state input t one =
    let none : level - 1 ≡ 0 = omega arith in
    t.in_frame.starts (ap (λ (k : ℕ). Steps k) none)

-- an obligation that no start lies in has a level above 0
pub level_above : (m : Machine) (o : Obligation) → IsObligation m o → misses_start m o.cube ≡ true → 0 < o.level
level_above m o h misses =
    elim (cases_eq o.level 0) [
      | inl none ↦
          let holds : lemma_true o.state (lemma_of (Steps 0) o.cube) ≡ true =
          start_holds m o.state (lemma_of (Steps 0) o.cube) (h.starts none) (bits_opposite m o.cube h.is_cube.in_range) misses in
          absurd (true≢false (sym h.inside ∙ outside_holds o.state (Steps 0) o.cube holds))
      | inr ne ↦ omega arith
    ]

-- ---- walks

pub record Led (m : Machine) (point : ℕ) (s : List Bool) (lines : List (List Bool)) : Type 0 where
  pub inputs : Each (IsInput m) lines
  pub last : ℕ
  pub long : length lines ≡ suc last
  pub hit : HitsAt m point s lines last

pub led : (m : Machine) (point : ℕ) (s : List Bool) (lines : List (List Bool)) → LeadsToHit m point s lines → Led m point s lines
led m point s [] h = absurd h
led m point s (x ∷ []) h = record {
  inputs = All-cons (IsInput m) x [] h.0 (All-nil (IsInput m));
  last = 0;
  long = refl;
  hit = record { within = omega arith; hit = h.1 };
}
led m point s (x ∷ y ∷ more) h =
    let rest : Led m point (next_state m s x) (y ∷ more) = led m point (next_state m s x) (y ∷ more) h.1 in
    record {
      inputs = All-cons (IsInput m) x (y ∷ more) h.0 rest.inputs;
      last = suc rest.last;
      long = ap suc rest.long;
      hit = record { within = omega (arith, rest.long); hit = rest.hit.hit };
    }

-- the state after one step more
pub after_more : (m : Machine) (s : List Bool) (lines : List (List Bool)) (t : ℕ) → t < length lines →
    state_after m s (take (t + 1) lines) ≡ next_state m (state_after m s (take t lines)) (get_or lines t [])
after_more m s [] t below = absurd (omega arith)
after_more m s (x ∷ xs) zero below = refl
after_more m s (x ∷ xs) (suc t) below =
    let more : suc (t + 1) ≡ suc t + 1 = omega arith in
    subst (λ (n : ℕ). state_after m s (take n (x ∷ xs)) ≡ next_state m (state_after m (next_state m s x) (take t xs)) (get_or xs t [])) more
    (after_more m (next_state m s x) xs t (omega arith))

-- no step before hits, and this one doesn't
pub none_more : (m : Machine) (point : ℕ) (s : List Bool) (lines : List (List Bool)) (at : ℕ) → ((t : ℕ) → t < at → HitsAt m point s lines t → ⊥) →
    value_in_step m (state_after m s (take at lines)) (get_or lines at []) (hit_literal m point) ≡ false → (t : ℕ) → t < at + 1 → HitsAt m point s lines t → ⊥
none_more m point s lines at none off t below h =
    elim (cases_eq t at) [
      | inl e ↦
          let here : HitsAt m point s lines at = subst (λ (n : ℕ). HitsAt m point s lines n) e h in
          true≢false (sym here.hit ∙ off)
      | inr ne ↦ none t (omega arith) h
    ]

hit-along : (m : Machine) (point : ℕ) (s : List Bool) (lines : List (List Bool)) (at t : ℕ) → t < at → at ≤ length lines → HitsAt m point s (take at lines) t → HitsAt m point s lines t
hit-along m point s lines at t below all h =
    let before : take t (take at lines) ≡ take t lines = take-take t at lines (omega arith) in
    let input : get_or (take at lines) t [] ≡ get_or lines t [] = get_or-take at lines t [] below in
    record {
      within = omega arith;
      hit = rw (before, input) at h.hit;
    }

hit-back : (m : Machine) (point : ℕ) (s : List Bool) (lines : List (List Bool)) (at t : ℕ) → t < at → at ≤ length lines → HitsAt m point s lines t → HitsAt m point s (take at lines) t
hit-back m point s lines at t below all h =
    let before : take t (take at lines) ≡ take t lines = take-take t at lines (omega arith) in
    let input : get_or (take at lines) t [] ≡ get_or lines t [] = get_or-take at lines t [] below in
    record {
      within = omega (arith, length-take-le at lines all);
      hit = rw (before, input) h.hit;
    }

-- a walk up to its first hit
pub cut_is : (m : Machine) (point : ℕ) (w : Walk) (lines : List (List Bool)) (last : ℕ) → IsTrace m point w → IsFirstHit m point w last → lines ≡ take (last + 1) w.lines →
    EndsAtFirstHit m point (record { start = w.start; lines = lines })
cut_is m point w lines last t h same =
    let l : Led m point w.start w.lines = led m point w.start w.lines t.leads in
    rw same (record {
      is_walk = record { starts = t.starts; each_input = All-take (IsInput m) (last + 1) w.lines l.inputs };
      last = last;
      long = length-take-le (last + 1) w.lines (omega (arith, h.hit.within));
      hit = hit-back m point w.start w.lines (last + 1) last (omega arith) (omega (arith, h.hit.within)) h.hit;
      first = λ n low g. h.first n low (hit-along m point w.start w.lines (last + 1) n (omega arith) (omega (arith, h.hit.within)) g);
    })
