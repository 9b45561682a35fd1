-- An accepted ladder's lemmas hold along every walk, so the point is not hit.
use Rattle.std.proofs.Common.{◌≡◌, ℕ, ◌+◌, ◌-◌, ◌<◌, ◌≤◌, nat_le, suc, Bool, true, false, not, cond, ◌||◌, Option, Some, None, List, [], ◌∷◌, ◌++◌, map, take, length, get_or, refl, sym, ap, ◌∙◌, subst, arith, is_some}
use Rattle.std.specs.Prelude.{All as Each, IfSome}
use Rattle.std.specs.List.{list_any}
use Rattle.std.proofs.lemmas.Bool.Decides.{nat_tests}
use Rattle.std.proofs.lemmas.List.{get_or-map, length-take-le, length-map}
use Rattle.std.proofs.lemmas.List.Elements.{All-nil, All-cons, All-head, All-tail, All-take, All-filter, All-weaker, filter_passes}
use Rattle.cnf_core.specs.Literal.{same_sign, HaveNoSolution}
use Rattle.bit_system.specs.ProofLines.{ProofLine}
use Rattle.cnf_core.proofs.Sound.{sound}
use Rattle.cnf_core.proofs.Truth.{same_sign-same}
use Rattle.aig_core.specs.Graph.{node_count, negation}
use Rattle.aig_core.proofs.Values.{value_of-negation}
use Rattle.bit_system.specs.declared.system.StateInfo.{StateInfo}
use Rattle.bit_system.specs.declared.ladder.Depth.{Depth}
use Rattle.bit_system.specs.declared.ladder.Depth.TheVariants.{All, Steps}
use Rattle.bit_system.specs.declared.ladder.StateLit.{StateLit}
use Rattle.bit_system.specs.declared.ladder.Lemma.{Lemma}
use Rattle.bit_system.specs.declared.ladder.Ladder.{Ladder}
use Rattle.bit_system.specs.Machine.{Machine, IsMachine, IsState, IsInput, IsStart, IsWalk, HitsAt, next_literal, hit_literal, value_in_step, next_state, state_after}
use Rattle.bit_system.specs.Ladders.{HasStates, premises, is_first, is_at_least, previous, lit_true, lemma_true, Satisfies, NeverHits}
use Rattle.bit_system.specs.Queries.{false_after, all_false_after, step_clauses, hit_clauses}
use Rattle.bit_system.specs.Accepted.{LemmaFits, starts_as, has_steps, IsAccepted, HitIsRefuted}
use Rattle.bit_system.proofs.Meaning.{unsatisfied}

-- ---- levels

le-true : (a b : ℕ) → nat_le a b ≡ true → a ≤ b
le-true a b e = grind (arith, nat_tests)

true-le : (a b : ℕ) → a ≤ b → nat_le a b ≡ true
true-le a b e = grind (arith, nat_tests)

-- what is a step before something of t + 1 steps is of t steps
before-reaches : (p l : Depth) (t : ℕ) → is_at_least p (previous l) ≡ true → is_at_least l (Steps (t + 1)) ≡ true → is_at_least p (Steps t) ≡ true
before-reaches All l t e f = refl
before-reaches (Steps n) All t e f = absurd cc
before-reaches (Steps n) (Steps m) t e f =
    true-le t n (omega (arith, le-true (m - 1) n e, le-true (t + 1) m f))

first-is_zero : (l : Depth) (t : ℕ) → is_first l ≡ true → is_at_least l (Steps (t + 1)) ≡ true → t ≡ 0
first-is_zero All t e f = absurd cc
first-is_zero (Steps m) t e f =
    let one : m ≡ 1 = grind (arith, nat_tests) in
    omega (arith, le-true (t + 1) m f)

-- ---- literals before and after

and-cond : (p b : Bool) → b ≡ p → cond p b (not b) ≡ true
and-cond true b e = e
and-cond false b e = rw e refl

start-true :
    (m : Machine) (state : List Bool) → IsStart m state → (lits : List StateLit) → Each (λ l. l.state < length m.states) lits →
    list_any (λ l. starts_as (get_or m.states l.state (record { name = []; start = None })).start l.positive) lits ≡ true →
    list_any (lit_true state) lits ≡ true
start-true m state s [] h e = absurd cc
start-true m state s (l ∷ ls) h e = by (start-true m state s ls (All-tail (λ (l : StateLit). l.state < length m.states) l ls h)) (get_or m.states l.state none).start refl e
  where
    none : StateInfo
    none = record { name = []; start = None }

    or-true : (a b c : Bool) → (a ≡ true → c ≡ true) → (a || b) ≡ true → (b ≡ true → c ≡ true) → c ≡ true
    or-true true b c f e g = f refl
    or-true false b c f e g = g e

    left : (a b : Bool) → a ≡ true → (a || b) ≡ true
    left a b e = rw e refl

    right : (a b : Bool) → b ≡ true → (a || b) ≡ true
    right true b e = refl
    right false b e = e

    by :
        (list_any (λ l. starts_as (get_or m.states l.state (record { name = []; start = None })).start l.positive) ls ≡ true → list_any (lit_true state) ls ≡ true) →
        (o : Option Bool) → (get_or m.states l.state (record { name = []; start = None })).start ≡ o →
        (starts_as (get_or m.states l.state (record { name = []; start = None })).start l.positive || list_any (λ l. starts_as (get_or m.states l.state (record { name = []; start = None })).start l.positive) ls) ≡ true →
        (lit_true state l || list_any (lit_true state) ls) ≡ true
    by ih None t e = right (lit_true state l) _ (ih (rw t at e))
    by ih (Some b) t e =
        or-true (same_sign b l.positive) _ _
        (λ q. left (lit_true state l) _
        (and-cond l.positive (get_or state l.state false)
        (s.agrees l.state b (record { name = []; start = None }) (All-head (λ (l : StateLit). l.state < length m.states) l ls h) t ∙ same_sign-same b l.positive q)))
        (rw t at e)
        (λ q. right (lit_true state l) _ (ih q))

module _ (m : Machine) (v : IsMachine m) (state input : List Bool) where
  after : List Bool
  after = next_state m state input

  is_state-after : IsState m (next_state m state input)
  is_state-after = omega (arith, v.next_count, length-map m.next (value_in_step m state input))

  bit-after : (i : ℕ) → i < length m.states → get_or (next_state m state input) i false ≡ value_in_step m state input (next_literal m i)
  bit-after i h = get_or-map (value_in_step m state input) m.next i 0 false (omega (arith, v.next_count))

  false-after : (l : StateLit) → l.state < length m.states → lit_true (next_state m state input) l ≡ false → value_in_step m state input (false_after m l) ≡ true
  false-after l h e = by l.positive (rw (bit-after l.state h) at e)
    where
      flip : (b : Bool) → not b ≡ false → b ≡ true
      flip true e = refl
      flip false e = sym e

      by : (p : Bool) → cond p (value_in_step m state input (next_literal m l.state)) (not (value_in_step m state input (next_literal m l.state))) ≡ false
          → value_in_step m state input (cond p (negation (next_literal m l.state)) (next_literal m l.state)) ≡ true
      by true e = value_of-negation m.graph (input ++ state) (next_literal m l.state) ∙ ap not e
      by false e = flip (value_in_step m state input (next_literal m l.state)) e

  all-false-after :
      (lits : List StateLit) → Each (λ l. l.state < length m.states) lits → list_any (lit_true (next_state m state input)) lits ≡ false →
      Each (λ x. value_in_step m state input x ≡ true) (map (false_after m) lits)
  all-false-after [] h e = All-nil (λ x. value_in_step m state input x ≡ true)
  all-false-after (l ∷ ls) h e =
      All-cons (λ x. value_in_step m state input x ≡ true) (false_after m l) (map (false_after m) ls)
      (false-after l (All-head (λ (l : StateLit). l.state < length m.states) l ls h) (or-left (lit_true (next_state m state input) l) _ e))
      (all-false-after ls (All-tail (λ (l : StateLit). l.state < length m.states) l ls h) (or-right (lit_true (next_state m state input) l) _ e))
    where
      or-left : (a b : Bool) → (a || b) ≡ false → a ≡ false
      or-left true b q = q
      or-left false b q = refl

      or-right : (a b : Bool) → (a || b) ≡ false → b ≡ false
      or-right true b q = absurd cc
      or-right false b q = q

-- ---- walks

-- the state is reached after t steps, as far as the lemmas tell
record Holds (m : Machine) (lemmas : List Lemma) (t : ℕ) (state : List Bool) : Type 0 where
  is_state : IsState m state
  starts : t ≡ 0 → IsStart m state
  lemmas_hold : Each (λ l. is_at_least l.level (Steps t) ≡ true → lemma_true state l ≡ true) lemmas

module _ (m : Machine) (v : IsMachine m) (point : ℕ) (ladder : Ladder) (accepted : IsAccepted m point ladder) where
  has_states : Each (HasStates m) ladder.lemmas
  has_states = All-weaker (LemmaFits m ladder.depth) (HasStates m) (λ l f. f.states) ladder.lemmas accepted.shape.lemmas

  holds-start : (state : List Bool) → IsStart m state → Holds m ladder.lemmas 0 state
  holds-start state s = record {
    is_state = s.is_state;
    starts = λ _. s;
    lemmas_hold = λ k d w _. start-true m state s (get_or ladder.lemmas k d).lits (has_states k d w) (accepted.starts k d w);
  }

  -- the premises of what is of t + 1 steps hold after t
  premises-hold :
      (depth : Depth) (t : ℕ) (state : List Bool) → Holds m ladder.lemmas t state → is_at_least depth (Steps (t + 1)) ≡ true →
      Each (λ l. lemma_true state l ≡ true) (premises depth ladder.lemmas)
  premises-hold depth t state h e k d w =
      let far : Each (λ (l : Lemma). is_at_least l.level (previous depth) ≡ true) (premises depth ladder.lemmas) =
      filter_passes (λ (l : Lemma). is_at_least l.level (previous depth)) ladder.lemmas in
      let kept : Each (λ l. is_at_least l.level (Steps t) ≡ true → lemma_true state l ≡ true) (premises depth ladder.lemmas) =
      All-filter (λ (l : Lemma). is_at_least l.level (previous depth)) (λ l. is_at_least l.level (Steps t) ≡ true → lemma_true state l ≡ true) ladder.lemmas h.lemmas_hold in
      kept k d w (before-reaches (get_or (premises depth ladder.lemmas) k d).level depth t (far k d w) e)

  satisfies :
      (depth : Depth) (t : ℕ) (state input : List Bool) (assumed : List ℕ) → Holds m ladder.lemmas t state → IsInput m input →
      is_at_least depth (Steps (t + 1)) ≡ true → Each (λ x. value_in_step m state input x ≡ true) assumed →
      Satisfies m depth ladder.lemmas assumed state input
  satisfies depth t state input assumed h i e a = record {
    is_state = h.is_state;
    is_input = i;
    premises_hold = premises-hold depth t state h e;
    starts = λ f. h.starts (first-is_zero depth t f e);
    assumed_true = a;
  }

  holds-step : (t : ℕ) (state input : List Bool) → Holds m ladder.lemmas t state → IsInput m input → Holds m ladder.lemmas (t + 1) (next_state m state input)
  holds-step t state input h i = record {
    is_state = is_state-after m v state input;
    starts = λ e. absurd (omega arith);
    lemmas_hold = λ k d w e. by k d w e (lemma_true (next_state m state input) (get_or ladder.lemmas k d)) refl;
  }
    where
      by :
          (k : ℕ) (d : Lemma) → k < length ladder.lemmas → is_at_least (get_or ladder.lemmas k d).level (Steps (t + 1)) ≡ true →
          (b : Bool) → lemma_true (next_state m state input) (get_or ladder.lemmas k d) ≡ b →
          lemma_true (next_state m state input) (get_or ladder.lemmas k d) ≡ true
      by k d w e true q = q
      by k d w e false q =
          let l : Lemma = get_or ladder.lemmas k d in
          let proof = accepted.steps k w d [] in
          let none : HaveNoSolution (step_clauses m ladder.lemmas l) =
          sound (node_count m.graph) (step_clauses m ladder.lemmas l) proof.lines proof.refutes in
          absurd
          (unsatisfied m l.level ladder.lemmas (all_false_after m l) state input v has_states none
          (satisfies l.level t state input (all_false_after m l) h i e
          (all-false-after m v state input l.lits (has_states k d w) q)))

  holds-after :
      (inputs : List (List Bool)) (t : ℕ) (state : List Bool) → Each (IsInput m) inputs → Holds m ladder.lemmas t state →
      Holds m ladder.lemmas (t + length inputs) (state_after m state inputs)
  holds-after [] t state i h = let same : t + 0 ≡ t = omega arith in rw same h
  holds-after (input ∷ inputs) t state i h =
      let same : t + suc (length inputs) ≡ t + 1 + length inputs = omega arith in
      rw same
      (holds-after inputs (t + 1) (next_state m state input) (All-tail (IsInput m) input inputs i)
      (holds-step t state input h (All-head (IsInput m) input inputs i)))

  not-hit :
      (start : List Bool) (inputs : List (List Bool)) (t : ℕ) → IsWalk m start inputs → is_at_least ladder.depth (Steps (t + 1)) ≡ true →
      HitsAt m point start inputs t → ⊥
  not-hit start inputs t walk e hit = by ladder.hit accepted.hit (accepted.shape.hit ∙ steps ladder.depth e)
    where
      steps : (depth : Depth) → is_at_least depth (Steps (t + 1)) ≡ true → has_steps depth ≡ true
      steps All e = refl
      steps (Steps k) e = let far : t + 1 ≤ k = le-true (t + 1) k e in grind (arith, nat_tests)

      state : List Bool
      state = state_after m start (take t inputs)

      there : Holds m ladder.lemmas t (state_after m start (take t inputs))
      there =
          let same : 0 + length (take t inputs) ≡ t = omega (arith, length-take-le t inputs (omega (arith, hit.within))) in
          subst (λ (n : ℕ). Holds m ladder.lemmas n (state_after m start (take t inputs))) same
          (holds-after (take t inputs) 0 start (All-take (IsInput m) t inputs walk.each_input) (holds-start start walk.starts))

      by : (o : Option (List ProofLine)) → IfSome o (HitIsRefuted m point ladder) → is_some o ≡ true → ⊥
      by None r s = cc
      by (Some proof) r s =
          let input : List Bool = get_or inputs t [] in
          let none : HaveNoSolution (hit_clauses m ladder.depth ladder.lemmas point) =
          sound (node_count m.graph) (hit_clauses m ladder.depth ladder.lemmas point) r.lines r.refutes in
          unsatisfied m ladder.depth ladder.lemmas (hit_literal m point ∷ []) (state_after m start (take t inputs)) input v has_states none
          (satisfies ladder.depth t (state_after m start (take t inputs)) input (hit_literal m point ∷ []) there
          (walk.each_input t [] hit.within) e
          (All-cons (λ x. value_in_step m (state_after m start (take t inputs)) input x ≡ true) (hit_literal m point) [] hit.hit
          (All-nil (λ x. value_in_step m (state_after m start (take t inputs)) input x ≡ true))))

pub never-hits : (m : Machine) → IsMachine m → (point : ℕ) (ladder : Ladder) → IsAccepted m point ladder → NeverHits m point ladder.depth
never-hits m v point ladder accepted = by ladder.depth refl
  where
    by : (depth : Depth) → ladder.depth ≡ depth → NeverHits m point depth
    by All e = λ start inputs t walk hit. not-hit m v point ladder accepted start inputs t walk (rw e refl) hit
    by (Steps k) e = λ start inputs t walk h hit. not-hit m v point ladder accepted start inputs t walk (rw e (true-le (t + 1) k (omega arith))) hit
