-- What the answers of the solver say of frames.
use Rattle.std.proofs.Common.{◌≡◌, ◌≢◌, ℕ, ◌+◌, ◌<◌, Bool, true, false, not, List, [], ◌∷◌, ◌++◌, length, length-append, get_or, refl, sym, ap, ◌∙◌, subst, arith}
use Rattle.std.specs.Prelude.{All as Each, Result, IfOk}
use Rattle.std.specs.List.{slice_range}
use Rattle.std.proofs.Math.Seq.{get_or-append_seam}
use Rattle.std.proofs.lemmas.List.{get_or_append_left, get_or_at}
use Rattle.std.proofs.lemmas.Result.{IfOk-weaker}
use Rattle.std.proofs.lemmas.List.Elements.{All-nil, All-cons, All-head, All-push}
use Rattle.cnf_core.specs.Literal.{Literal, HaveNoSolution}
use Rattle.sat_core.specs.Answers.{valuation}
use Rattle.aig_core.specs.Graph.{IsLiteral, node_count}
use Rattle.bit_system.specs.declared.ladder.Depth.{Depth}
use Rattle.bit_system.specs.declared.ladder.Depth.TheVariants.{Steps}
use Rattle.bit_system.specs.declared.ladder.StateLit.{StateLit}
use Rattle.bit_system.specs.declared.ladder.Lemma.{Lemma}
use Rattle.bit_system.specs.Machine.{Machine, IsMachine, IsInput, hit_literal, next_state, value_in_step}
use Rattle.bit_system.specs.Ladders.{HasStates, is_at_least, previous, lemma_true, Satisfies}
use Rattle.bit_system.specs.Queries.{query_clauses, step_clauses, hit_clauses, all_false_after, state_of, input_of}
use Rattle.bit_system.proofs.Meaning.{unsatisfied}
use Rattle.bit_system.proofs.Solved.{solved}
use Rattle.generalise.specs.Cubes.{in_cube, HasBits, lemma_of}
use Rattle.generalise.specs.Frames.{InFrame}
use Rattle.generalise.specs.declared.units.Units.{Units}
use Rattle.ic3_frames.specs.Queries.{Fails, StepsInto, Hits, Finds}
use Rattle.ic3_frames.specs.Found.{HasValues, IsAnswerOf}
use Rattle.ic3_frames.specs.Solving.{IsSolved}
use Rattle.ic3_frames.specs.declared.query.Query.{Query}
use Rattle.ic3_frames.specs.declared.query.Query.TheVariants.{Refuted, Found, Spent}
use Rattle.ic3_frames.specs.declared.solve.Solved.{Solved}
use Rattle.ic3_frames.specs.declared.solve.Solved.TheVariants as answered
use Rattle.ic3_frames.proofs.Lists.{values_read}
use Rattle.ic3_frames.proofs.Levels.{first_of, before_first, at_least_previous, each_tested, each_filtered}
use Rattle.ic3_frames.proofs.Bits.{not_true, not_false, lemma_outside, none_after, after_none, all_false_exist, bits_opposite}

-- ---- a query's state and its frame

satisfied-frame : (m : Machine) (depth : Depth) (lemmas : List Lemma) (assumed : List ℕ) (s x : List Bool) → depth ≢ Steps 0 →
    Satisfies m depth lemmas assumed s x → InFrame m lemmas (previous depth) s
satisfied-frame m depth lemmas assumed s x ne h = record {
  is_state = h.is_state;
  starts = λ e. h.starts (first_of depth ne e);
  holds = each_tested (λ l. lemma_true s l ≡ true) (λ l. is_at_least l.level (previous depth)) lemmas h.premises_hold;
}

frame-satisfies : (m : Machine) (depth : Depth) (lemmas : List Lemma) (assumed : List ℕ) (s x : List Bool) →
    InFrame m lemmas (previous depth) s → IsInput m x → Each (λ y. value_in_step m s x y ≡ true) assumed → Satisfies m depth lemmas assumed s x
frame-satisfies m depth lemmas assumed s x f input h = record {
  is_state = f.is_state;
  is_input = input;
  premises_hold = each_filtered (λ l. lemma_true s l ≡ true) (λ l. is_at_least l.level (previous depth)) lemmas f.holds;
  starts = λ e. f.starts (before_first depth e);
  assumed_true = h;
}

-- what a query finds, where what it says is the same as `Is`
finds-of : (m : Machine) (depth : Depth) (lemmas : List Lemma) (assumed : List ℕ) (Is : List Bool → List Bool → Type 0) (vars : ℕ) (old new : Units) →
    IsMachine m → Each (HasStates m) lemmas → Each (IsLiteral m.graph) assumed →
    ((s x : List Bool) → Satisfies m depth lemmas assumed s x → Is s x) → ((s x : List Bool) → Is s x → Satisfies m depth lemmas assumed s x) →
    (a : Solved) (q : Query) → IsSolved vars (query_clauses m depth lemmas assumed) old new a → IsAnswerOf m a q → Finds Is old new q
finds-of m depth lemmas assumed Is vars old new v s exist to from answered.Refuted q h e =
    rw e ((λ state input is. unsatisfied m depth lemmas assumed state input v s h.0 (from state input is)), h.1)
finds-of m depth lemmas assumed Is vars old new v s exist to from (answered.Values values) q h e =
    rw e (to (state_of m (valuation values)) (input_of m (valuation values)) (solved m depth lemmas assumed (valuation values) v s exist h.1), h.2)
finds-of m depth lemmas assumed Is vars old new v s exist to from answered.Spent q h e = rw e h

pub finds_step : (m : Machine) (lemmas : List Lemma) (l : Lemma) (clauses : List (List Literal)) (vars : ℕ) (old new : Units) (a : Solved) (q : Query) →
    IsMachine m → Each (HasStates m) lemmas → HasStates m l → l.level ≢ Steps 0 → clauses ≡ step_clauses m lemmas l →
    IsSolved vars clauses old new a → IsAnswerOf m a q → Finds (Fails m lemmas l) old new q
finds_step m lemmas l clauses vars old new a q v s here ne e h is =
    finds-of m l.level lemmas (all_false_after m l) (Fails m lemmas l) vars old new v s (all_false_exist m v l.lits here)
    (λ state input t. record { in_frame = satisfied-frame m l.level lemmas (all_false_after m l) state input ne t; is_input = t.is_input; false_after = none_after m v state input l.lits here t.assumed_true })
    (λ state input f. frame-satisfies m l.level lemmas (all_false_after m l) state input f.in_frame f.is_input (after_none m v state input l.lits here f.false_after))
    a q (rw e at h) is

pub finds_hit : (m : Machine) (point : ℕ) (depth : Depth) (lemmas : List Lemma) (clauses : List (List Literal)) (vars : ℕ) (old new : Units) (a : Solved) (q : Query) →
    IsMachine m → Each (HasStates m) lemmas → point < length m.hits → depth ≢ Steps 0 → clauses ≡ hit_clauses m depth lemmas point →
    IsSolved vars clauses old new a → IsAnswerOf m a q → Finds (Hits m point lemmas depth) old new q
finds_hit m point depth lemmas clauses vars old new a q v s low ne e h is =
    let hit : ℕ = hit_literal m point in
    finds-of m depth lemmas (hit ∷ []) (Hits m point lemmas depth) vars old new v s
    (All-cons (IsLiteral m.graph) hit [] (v.hits_exist point 0 low) (All-nil (IsLiteral m.graph)))
    (λ state input t. record { in_frame = satisfied-frame m depth lemmas (hit ∷ []) state input ne t; is_input = t.is_input; hit = All-head (λ y. value_in_step m state input y ≡ true) hit [] t.assumed_true })
    (λ state input f. frame-satisfies m depth lemmas (hit ∷ []) state input f.in_frame f.is_input
    (All-cons (λ y. value_in_step m state input y ≡ true) hit [] f.hit (All-nil (λ y. value_in_step m state input y ≡ true))))
    a q (rw e at h) is

-- ---- a frame with one lemma more

pub All-left : {X : Type 0} (P : X → Type 0) (xs ys : List X) → Each P (xs ++ ys) → Each P xs
All-left P xs ys h = λ k d below. subst P (get_or_append_left xs ys d k below) (h k d (omega (arith, length-append xs ys)))

pub All-last : {X : Type 0} (P : X → Type 0) (xs : List X) (x : X) → Each P (xs ++ x ∷ []) → P x
All-last P xs x h = subst P (get_or-append_seam xs x [] x) (h (length xs) x (omega (arith, length-append xs (x ∷ []))))

pub frame_first : (m : Machine) (lemmas : List Lemma) (l : Lemma) (level : Depth) (s : List Bool) → InFrame m (lemmas ++ l ∷ []) level s → InFrame m lemmas level s
frame_first m lemmas l level s f = record {
  is_state = f.is_state;
  starts = f.starts;
  holds = All-left (λ k. is_at_least k.level level ≡ true → lemma_true s k ≡ true) lemmas (l ∷ []) f.holds;
}

pub frame_last : (m : Machine) (lemmas : List Lemma) (l : Lemma) (level : Depth) (s : List Bool) → InFrame m (lemmas ++ l ∷ []) level s →
    is_at_least l.level level ≡ true → lemma_true s l ≡ true
frame_last m lemmas l level s f = All-last (λ k. is_at_least k.level level ≡ true → lemma_true s k ≡ true) lemmas l f.holds

pub frame_more : (m : Machine) (lemmas : List Lemma) (l : Lemma) (level : Depth) (s : List Bool) → InFrame m lemmas level s →
    (is_at_least l.level level ≡ true → lemma_true s l ≡ true) → InFrame m (lemmas ++ l ∷ []) level s
frame_more m lemmas l level s f h = record {
  is_state = f.is_state;
  starts = f.starts;
  holds = All-push (λ k. is_at_least k.level level ≡ true → lemma_true s k ≡ true) lemmas l f.holds h;
}

-- ---- a cube

out : (s : List Bool) (level : Depth) (cube : List StateLit) → lemma_true s (lemma_of level cube) ≡ true → in_cube s cube ≡ false
out s level cube e = not_true (in_cube s cube) (sym (lemma_outside s level cube) ∙ e)

in-it : (s : List Bool) (level : Depth) (cube : List StateLit) → lemma_true s (lemma_of level cube) ≡ false → in_cube s cube ≡ true
in-it s level cube e = not_false (in_cube s cube) (sym (lemma_outside s level cube) ∙ e)

pub holds_outside : (s : List Bool) (level : Depth) (cube : List StateLit) → in_cube s cube ≡ false → lemma_true s (lemma_of level cube) ≡ true
holds_outside s level cube e = lemma_outside s level cube ∙ ap not e

pub outside_holds : (s : List Bool) (level : Depth) (cube : List StateLit) → lemma_true s (lemma_of level cube) ≡ true → in_cube s cube ≡ false
outside_holds s level cube e = out s level cube e

fails-into : (m : Machine) (lemmas : List Lemma) (level : Depth) (cube : List StateLit) (s x : List Bool) →
    Fails m (lemmas ++ lemma_of level cube ∷ []) (lemma_of level cube) s x → StepsInto m lemmas level cube s x
fails-into m lemmas level cube s x f = record {
  in_frame = frame_first m lemmas (lemma_of level cube) (previous level) s f.in_frame;
  is_input = f.is_input;
  outside = out s level cube (frame_last m lemmas (lemma_of level cube) (previous level) s f.in_frame (at_least_previous level));
  into = in-it (next_state m s x) level cube f.false_after;
}

into-fails : (m : Machine) (lemmas : List Lemma) (level : Depth) (cube : List StateLit) (s x : List Bool) →
    StepsInto m lemmas level cube s x → Fails m (lemmas ++ lemma_of level cube ∷ []) (lemma_of level cube) s x
into-fails m lemmas level cube s x f = record {
  in_frame = frame_more m lemmas (lemma_of level cube) (previous level) s f.in_frame (λ e. holds_outside s level cube f.outside);
  is_input = f.is_input;
  false_after = lemma_outside (next_state m s x) level cube ∙ ap not f.into;
}

finds-same : (Is Has : List Bool → List Bool → Type 0) (old new : Units) → ((s x : List Bool) → Is s x → Has s x) → ((s x : List Bool) → Has s x → Is s x) →
    (q : Query) → Finds Is old new q → Finds Has old new q
finds-same Is Has old new to from Refuted h = ((λ s x has. h.0 s x (from s x has)), h.1)
finds-same Is Has old new to from (Found s x) h = (to s x h.0, h.1)
finds-same Is Has old new to from Spent h = h

-- the query of the last lemma is that of its cube
pub finds_cube : (m : Machine) (lemmas : List Lemma) (level : Depth) (cube : List StateLit) (old new : Units) (q : Query) →
    Finds (Fails m (lemmas ++ lemma_of level cube ∷ []) (lemma_of level cube)) old new q → Finds (StepsInto m lemmas level cube) old new q
finds_cube m lemmas level cube old new q h =
    finds-same (Fails m (lemmas ++ lemma_of level cube ∷ []) (lemma_of level cube)) (StepsInto m lemmas level cube) old new
    (fails-into m lemmas level cube) (into-fails m lemmas level cube) q h

pub states_more : (m : Machine) (lemmas : List Lemma) (level : Depth) (cube : List StateLit) → Each (HasStates m) lemmas → HasBits m cube →
    Each (HasStates m) (lemmas ++ lemma_of level cube ∷ [])
states_more m lemmas level cube s bits = All-push (HasStates m) lemmas (lemma_of level cube) s (bits_opposite m cube bits)

-- ---- queries of ladders

-- where no step makes the lemma false, its step query has no solution
pub unsolved_step : (m : Machine) (lemmas : List Lemma) (l : Lemma) → IsMachine m → Each (HasStates m) lemmas → HasStates m l → l.level ≢ Steps 0 →
    ((s x : List Bool) → Fails m lemmas l s x → ⊥) → HaveNoSolution (step_clauses m lemmas l)
unsolved_step m lemmas l v s here ne none w h =
    let state : List Bool = state_of m w in
    let input : List Bool = input_of m w in
    let t : Satisfies m l.level lemmas (all_false_after m l) state input = solved m l.level lemmas (all_false_after m l) w v s (all_false_exist m v l.lits here) h in
    none state input (record { in_frame = satisfied-frame m l.level lemmas (all_false_after m l) state input ne t; is_input = t.is_input; false_after = none_after m v state input l.lits here t.assumed_true })

-- where no state of the frame hits, the hit query has no solution
pub unsolved_hit : (m : Machine) (point : ℕ) (depth : Depth) (lemmas : List Lemma) → IsMachine m → Each (HasStates m) lemmas → point < length m.hits → depth ≢ Steps 0 →
    ((s x : List Bool) → Hits m point lemmas depth s x → ⊥) → HaveNoSolution (hit_clauses m depth lemmas point)
unsolved_hit m point depth lemmas v s low ne none w h =
    let hit : ℕ = hit_literal m point in
    let state : List Bool = state_of m w in
    let input : List Bool = input_of m w in
    let t : Satisfies m depth lemmas (hit ∷ []) state input =
    solved m depth lemmas (hit ∷ []) w v s (All-cons (IsLiteral m.graph) hit [] (v.hits_exist point 0 low) (All-nil (IsLiteral m.graph))) h in
    none state input (record {
      in_frame = satisfied-frame m depth lemmas (hit ∷ []) state input ne t;
      is_input = t.is_input;
      hit = All-head (λ y. value_in_step m state input y ≡ true) hit [] t.assumed_true;
    })

-- the values of an answer are those of all variables
pub has_values : (vars : ℕ) (clauses : List (List Literal)) (old new : Units) (a : Solved) → IsSolved vars clauses old new a → HasValues vars a
has_values vars clauses old new answered.Refuted h = tt
has_values vars clauses old new (answered.Values values) h = h.0
has_values vars clauses old new answered.Spent h = tt

pub finds_last : (m : Machine) (lemmas told : List Lemma) (level : Depth) (cube : List StateLit) (at : ℕ) (old new : Units) (E : Type 0) (r : Result Query E) →
    told ≡ lemmas ++ lemma_of level cube ∷ [] → at ≡ length lemmas → IfOk r (λ q. (d : Lemma) → Finds (Fails m told (get_or told at d)) old new q) →
    IfOk r (Finds (StepsInto m lemmas level cube) old new)
finds_last m lemmas told level cube at old new E r same end h =
    let l : Lemma = lemma_of level cube in
    IfOk-weaker r (λ q. (d : Lemma) → Finds (Fails m told (get_or told at d)) old new q) (Finds (StepsInto m lemmas level cube) old new)
    (λ q f.
    let g : Finds (Fails m (lemmas ++ l ∷ []) (get_or (lemmas ++ l ∷ []) at l)) old new q = subst (λ (t : List Lemma). Finds (Fails m t (get_or t at l)) old new q) same (f l) in
    finds_cube m lemmas level cube old new q
    (subst (λ (k : Lemma). Finds (Fails m (lemmas ++ l ∷ []) k) old new q) (get_or_at lemmas l [] l at (sym end)) g)) h

pub found_is : (m : Machine) (values s x : List Bool) → IsMachine m → length values ≡ node_count m.graph →
    s ≡ slice_range values (1 + m.graph.inputs) (1 + m.graph.inputs + length m.states) → x ≡ slice_range values 1 (1 + m.graph.inputs) →
    Found s x ≡ Found (state_of m (valuation values)) (input_of m (valuation values))
found_is m values s x v long state input =
    let states : s ≡ state_of m (valuation values) = state ∙ values_read values (1 + m.graph.inputs) (length m.states) (omega (arith, v.states)) in
    let inputs : x ≡ input_of m (valuation values) = input ∙ values_read values 1 m.graph.inputs (omega (arith, v.states)) in
    rw (states, inputs) refl
