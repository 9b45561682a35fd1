-- Starts, inputs, lemmas and walks of the whole system, from those of the cone.
use Rattle.std.proofs.Common.{◌≡◌, ℕ, ◌<◌, ◌⊎◌, inl, inr, suc, Bool, true, false, not, cond, ◌||◌, Option, Some, None, List, [], ◌∷◌, length, get_or, take, refl, sym, ap, ◌∙◌, arith, map}
use Rattle.std.specs.Prelude.{All}
use Rattle.std.specs.List.{list_any}
use Rattle.std.proofs.lemmas.List.{get_or-map, get_or_default, length-map, take-map}
use Rattle.std.proofs.lemmas.List.Elements.{All-head, All-tail, All-map, All-take, All-weaker}
use Rattle.bit_system.specs.declared.system.StateInfo.{StateInfo}
use Rattle.bit_system.specs.declared.ladder.StateLit.{StateLit}
use Rattle.bit_system.specs.declared.ladder.Lemma.{Lemma}
use Rattle.bit_system.specs.Machine.{Machine, IsMachine, IsState, IsInput, IsStart, HitsAt, hit_literal, next_state, state_after, value_in_step}
use Rattle.bit_system.specs.Ladders.{HasStates, lit_true}
use Rattle.bit_system.specs.Accepted.{Rises, starts_as}
use Rattle.point_cone.specs.Laws.{IsSeen, IsSame}
use Rattle.point_cone.specs.Back.{whole_lit, whole_lemma, value_of_start, starting, IsPut, IsOne, AgreeElsewhere}
use Rattle.point_cone.specs.Parts.{part, IsCone}
use Rattle.point_cone.specs.declared.build.Cone.{Cone}

same_values : (xs ys : List Bool) → length xs ≡ length ys → ((i : ℕ) → i < length xs → get_or xs i false ≡ get_or ys i false) → xs ≡ ys
same_values [] [] len h = refl
same_values [] (y ∷ ys) len h = absurd (omega arith)
same_values (x ∷ xs) [] len h = absurd (omega arith)
same_values (x ∷ xs) (y ∷ ys) len h =
    ap (λ (b : Bool). b ∷ xs) (h 0 (omega arith))
    ∙ ap (λ (l : List Bool). y ∷ l) (same_values xs ys (omega arith) (λ i low. h (suc i) (omega arith)))

-- ---- states and inputs

pub part_put : (places : List ℕ) (some old new : List Bool) → length some ≡ length places → IsPut places some (length places) old new → part places new ≡ some
part_put places some old new len p =
    same_values (part places new) some (length-map places (λ k. get_or new k false) ∙ sym len)
    (λ i low. (let below : i < length places = omega (arith, length-map places (λ (k : ℕ). get_or new k false)) in
    get_or-map (λ k. get_or new k false) places i 0 false below ∙ p.put i below))

pub elsewhere : (places : List ℕ) (some old new : List Bool) → IsPut places some (length places) old new → AgreeElsewhere places old new
elsewhere places some old new p n none = by (p.each n)
  where
    by : IsOne places (length places) n ⊎ (get_or new n false ≡ get_or old n false) → get_or new n false ≡ get_or old n false
    by (inl one) = absurd (none (one.at, one.below, get_or_default places one.at n 0 one.below ∙ one.is))
    by (inr same) = same

pub start_put : (whole : Machine) (cone : Cone) (some new : List Bool) → IsCone whole cone → IsStart cone.system some →
    IsPut cone.states some (length cone.states) (starting whole.states) new → IsStart whole new
start_put whole cone some new h s p = record {
  is_state = p.size ∙ length-map whole.states (λ (i : StateInfo). value_of_start i.start);
  agrees = λ i b d low e. elim (p.each i) [
    | inl one ↦
        let there : (get_or cone.system.states one.at d).start ≡ Some b =
        h.starts one.at d one.below ∙ ap (λ (n : ℕ). (get_or whole.states n d).start) one.is ∙ e in
        ap (λ (n : ℕ). get_or new n false) (sym one.is) ∙ p.put one.at one.below
        ∙ s.agrees one.at b d (omega (arith, one.below, h.state_count)) there
    | inr same ↦ same ∙ get_or-map (λ (k : StateInfo). value_of_start k.start) whole.states i d false low ∙ ap value_of_start e
  ];
}

-- ---- walks

module _ (whole : Machine) (cone : Cone) (v : IsMachine whole) (h : IsCone whole cone) where
  abbrev pub seen : List (List Bool) → List (List Bool)
  seen lines = map (part cone.inputs) lines

  pub part_state : (s : List Bool) → IsState cone.system (part cone.states s)
  part_state s = length-map cone.states (λ k. get_or s k false) ∙ sym h.state_count

  pub part_input : (x : List Bool) → IsInput cone.system (part cone.inputs x)
  part_input x = length-map cone.inputs (λ k. get_or x k false) ∙ sym h.input_count

  pub part_start : (s : List Bool) → IsStart whole s → IsStart cone.system (part cone.states s)
  part_start s st = record {
    is_state = part_state s;
    agrees = λ k b d low e.
        let below : k < length cone.states = omega (arith, h.state_count) in
        get_or-map (λ k. get_or s k false) cone.states k 0 false below
        ∙ st.agrees (get_or cone.states k 0) b d (h.states.exist k 0 below) (sym (h.starts k d below) ∙ e);
  }

  pub next_is_state : (s x : List Bool) → IsState whole (next_state whole s x)
  next_is_state s x = length-map whole.next (value_in_step whole s x) ∙ v.next_count

  pub after : (lines : List (List Bool)) (s : List Bool) → IsState whole s → All (IsInput whole) lines →
      state_after cone.system (part cone.states s) (seen lines) ≡ part cone.states (state_after whole s lines)
  after [] s st all = refl
  after (x ∷ xs) s st all =
      ap (λ (t : List Bool). state_after cone.system t (seen xs)) (h.steps s x st (All-head (IsInput whole) x xs all))
      ∙ after xs (next_state whole s x) (next_is_state s x) (All-tail (IsInput whole) x xs all)

  pub after_is_state : (lines : List (List Bool)) (s : List Bool) → IsState whole s → IsState whole (state_after whole s lines)
  after_is_state [] s st = st
  after_is_state (x ∷ xs) s st = after_is_state xs (next_state whole s x) (next_is_state s x)

  -- the value of the hit literal in a step
  hit_same : (s : List Bool) (lines : List (List Bool)) (t : ℕ) → IsState whole s → All (IsInput whole) lines → t < length lines →
      value_in_step cone.system (state_after cone.system (part cone.states s) (take t (seen lines))) (get_or (seen lines) t []) (hit_literal cone.system 0)
      ≡ value_in_step whole (state_after whole s (take t lines)) (get_or lines t []) (hit_literal whole cone.point)
  hit_same s lines t st all low =
      let there : state_after cone.system (part cone.states s) (take t (seen lines)) ≡ part cone.states (state_after whole s (take t lines)) =
      ap (state_after cone.system (part cone.states s)) (take-map (part cone.inputs) t lines) ∙ after (take t lines) s st (All-take (IsInput whole) t lines all) in
      let input : get_or (seen lines) t [] ≡ part cone.inputs (get_or lines t []) = get_or-map (part cone.inputs) lines t [] [] low in
      rw (there, input) (h.hits (state_after whole s (take t lines)) (get_or lines t []) (after_is_state (take t lines) s st) (all t [] low))

  pub hits_to : (s : List Bool) (lines : List (List Bool)) (t : ℕ) → IsState whole s → All (IsInput whole) lines → HitsAt cone.system 0 (part cone.states s) (seen lines) t → HitsAt whole cone.point s lines t
  hits_to s lines t st all x =
      let low : t < length lines = omega (arith, x.within, length-map lines (part cone.inputs)) in
      record { within = low; hit = sym (hit_same s lines t st all low) ∙ x.hit }

  pub hits_from : (s : List Bool) (lines : List (List Bool)) (t : ℕ) → IsState whole s → All (IsInput whole) lines → HitsAt whole cone.point s lines t → HitsAt cone.system 0 (part cone.states s) (seen lines) t
  hits_from s lines t st all x = record { within = omega (arith, x.within, length-map lines (part cone.inputs)); hit = hit_same s lines t st all x.within ∙ x.hit }

  pub walk_seen : (start : List Bool) (lines : List (List Bool)) → IsState whole start → All (IsInput whole) lines → IsSeen whole cone start lines
  walk_seen start lines st all = record {
    starts = part_start start;
    each_input = All-map (IsInput cone.system) (part cone.inputs) lines (λ i d low. part_input (get_or lines i d));
    after = after lines start st all;
    hits = λ t. (hits_to start lines t st all, hits_from start lines t st all);
  }

-- ---- lemmas

module _ (whole : Machine) (cone : Cone) (h : IsCone whole cone) where
  abbrev pub InCone : List StateLit → Type 0
  InCone lits = All (λ l. l.state < length cone.states) lits

  lit_same : (s : List Bool) (l : StateLit) → l.state < length cone.states → lit_true s (whole_lit cone.states l) ≡ lit_true (part cone.states s) l
  lit_same s l low = ap (λ (b : Bool). cond l.positive b (not b)) (sym (get_or-map (λ k. get_or s k false) cone.states l.state 0 false low))

  pub lemma_same : (s : List Bool) (lits : List StateLit) → InCone lits → list_any (lit_true s) (map (whole_lit cone.states) lits) ≡ list_any (lit_true (part cone.states s)) lits
  lemma_same s [] low = refl
  lemma_same s (l ∷ ls) low =
      ap (λ (b : Bool). b || list_any (lit_true s) (map (whole_lit cone.states) ls)) (lit_same s l (All-head (λ (l : StateLit). l.state < length cone.states) l ls low))
      ∙ ap (λ (b : Bool). lit_true (part cone.states s) l || b) (lemma_same s ls (All-tail (λ (l : StateLit). l.state < length cone.states) l ls low))

  abbrev none : StateInfo
  none = record { name = []; start = None }

  abbrev starts_true : Machine → StateLit → Bool
  starts_true m l = starts_as (get_or m.states l.state none).start l.positive

  start_lit_same : (l : StateLit) → l.state < length cone.states → starts_true whole (whole_lit cone.states l) ≡ starts_true cone.system l
  start_lit_same l low = ap (λ (o : Option Bool). starts_as o l.positive) (sym (h.starts l.state none low))

  pub start_same : (lits : List StateLit) → InCone lits → list_any (starts_true whole) (map (whole_lit cone.states) lits) ≡ list_any (starts_true cone.system) lits
  start_same [] low = refl
  start_same (l ∷ ls) low =
      ap (λ (b : Bool). b || list_any (starts_true whole) (map (whole_lit cone.states) ls)) (start_lit_same l (All-head (λ (l : StateLit). l.state < length cone.states) l ls low))
      ∙ ap (λ (b : Bool). starts_true cone.system l || b) (start_same ls (All-tail (λ (l : StateLit). l.state < length cone.states) l ls low))

  pub lemma_is : (lemma : Lemma) → InCone lemma.lits → IsSame whole cone lemma
  lemma_is lemma low = record { in_state = λ s. lemma_same s lemma.lits low; at_start = start_same lemma.lits low }

  -- it is on bits of the whole system, which rise
  pub whole_has : (lemma : Lemma) → InCone lemma.lits → HasStates whole (whole_lemma cone.states lemma)
  whole_has lemma low = All-map (λ (l : StateLit). l.state < length whole.states) (whole_lit cone.states) lemma.lits
      (All-weaker (λ (l : StateLit). l.state < length cone.states) (λ (l : StateLit). get_or cone.states l.state 0 < length whole.states) (λ l below. h.states.exist l.state 0 below) lemma.lits low)

  pub whole_rises : (lemma : Lemma) → InCone lemma.lits → Rises lemma.lits → Rises (map (whole_lit cone.states) lemma.lits)
  whole_rises lemma low r i j d lt below =
      let z : StateLit = record { state = 0; positive = true } in
      let inside : j < length lemma.lits = omega (arith, below, length-map lemma.lits (whole_lit cone.states)) in
      let first : get_or (map (whole_lit cone.states) lemma.lits) i d ≡ whole_lit cone.states (get_or lemma.lits i z) = get_or-map (whole_lit cone.states) lemma.lits i z d (omega arith) in
      let second : get_or (map (whole_lit cone.states) lemma.lits) j d ≡ whole_lit cone.states (get_or lemma.lits j z) = get_or-map (whole_lit cone.states) lemma.lits j z d inside in
      rw (first, second) (h.states.rise (get_or lemma.lits i z).state (get_or lemma.lits j z).state 0 (r i j z lt inside) (low j z inside))
