-- Walks that are replayed up to their first hit.
use Rattle.std.proofs.Common.{◌≡◌, ℕ, ◌+◌, ◌-◌, ◌<◌, ◌≤◌, Bool, false, List, [], ◌++◌, map, take, length, get_or, sym, ap, ◌∙◌, subst, arith}
use Rattle.std.proofs.lemmas.List.{get_or_default}
use Rattle.aig_core.specs.Graph.{node_values, value_in}
use Rattle.bit_system.specs.Machine.{Machine, IsMachine, IsState, IsInput, HitsAt, hit_literal, next_state, state_after, value_in_step}
use Rattle.ic3_frames.specs.Searching.{IsFirstHit, IsTrace}
use Rattle.ic3_frames.specs.declared.walk.Walk.{Walk}
use Rattle.ic3_frames.proofs.Bits.{is_state_after}
use Rattle.ic3_frames.proofs.Traces.{Led, led, after_more, none_more}

pub input_at : (m : Machine) (point : ℕ) (w : Walk) (lines : List (List Bool)) (at : ℕ) (line input : List Bool) → IsTrace m point w → lines ≡ w.lines → line ≡ get_or lines at line →
    at < length lines → input ≡ line → IsInput m input
input_at m point w lines at line input t same is below e =
    let l : Led m point w.start w.lines = led m point w.start w.lines t.leads in
    let within : at < length w.lines = subst (λ (ls : List (List Bool)). at < length ls) same below in
    ap length (e ∙ is ∙ ap (λ (ls : List (List Bool)). get_or ls at line) same) ∙ l.inputs at line within

-- the values that are computed give the next state
stepped : (m : Machine) (input state new values : List Bool) → values ≡ node_values m.graph (input ++ state) → new ≡ map (value_in values) m.next → new ≡ next_state m state input
stepped m input state new values shown made = made ∙ ap (λ (v : List Bool). map (value_in v) m.next) shown

pub replayed_state : (m : Machine) → IsMachine m → (input state new values : List Bool) → values ≡ node_values m.graph (input ++ state) → new ≡ map (value_in values) m.next → IsState m new
replayed_state m v input state new values shown made = ap length (stepped m input state new values shown made) ∙ is_state_after m v state input

line-at : (lines : List (List Bool)) (at : ℕ) (line input : List Bool) → line ≡ get_or lines at line → at < length lines → input ≡ line → input ≡ get_or lines at []
line-at lines at line input is below e = e ∙ is ∙ get_or_default lines at line [] below

pub replayed : (m : Machine) (start : List Bool) (lines : List (List Bool)) (at : ℕ) (line input state new values : List Bool) → line ≡ get_or lines at line → at < length lines → input ≡ line →
    state ≡ state_after m start (take at lines) → values ≡ node_values m.graph (input ++ state) → new ≡ map (value_in values) m.next → new ≡ state_after m start (take (at + 1) lines)
replayed m start lines at line input state new values is below e before shown made =
    let here : input ≡ get_or lines at [] = line-at lines at line input is below e in
    stepped m input state new values shown made
    ∙ ap (λ (s : List Bool). next_state m s input) before
    ∙ ap (next_state m (state_after m start (take at lines))) here
    ∙ sym (after_more m start lines at below)

pub replayed_none : (m : Machine) (point : ℕ) (w : Walk) (lines : List (List Bool)) (at : ℕ) (line input state values : List Bool) (hit : ℕ) (b : Bool) → lines ≡ w.lines → line ≡ get_or lines at line →
    at < length lines → input ≡ line → state ≡ state_after m w.start (take at lines) → values ≡ node_values m.graph (input ++ state) → hit ≡ hit_literal m point → b ≡ value_in values hit → b ≡ false →
    ((t : ℕ) → t < at → HitsAt m point w.start w.lines t → ⊥) → (t : ℕ) → t < at + 1 → HitsAt m point w.start w.lines t → ⊥
replayed_none m point w lines at line input state values hit b same is below e before shown literal value off none =
    let here : input ≡ get_or lines at [] = line-at lines at line input is below e in
    let dark : value_in_step m state input (hit_literal m point) ≡ false =
    ap (value_in_step m state input) (sym literal) ∙ ap (λ (v : List Bool). value_in v hit) (sym shown) ∙ sym value ∙ off in
    let along : value_in_step m (state_after m w.start (take at lines)) (get_or lines at []) (hit_literal m point) ≡ false = rw (before, here) at dark in
    none_more m point w.start w.lines at none
    (subst (λ (ls : List (List Bool)). value_in_step m (state_after m w.start (take at ls)) (get_or ls at []) (hit_literal m point) ≡ false) same along)

-- where no step before the last one hits, that is the first hit
pub last_hit : (m : Machine) (point : ℕ) (w : Walk) (lines : List (List Bool)) (at : ℕ) → IsTrace m point w → lines ≡ w.lines → length lines - 1 ≤ at →
    ((t : ℕ) → t < at → HitsAt m point w.start w.lines t → ⊥) → IsFirstHit m point w (length lines - 1)
last_hit m point w lines at t same over none =
    let l : Led m point w.start w.lines = led m point w.start w.lines t.leads in
    let last : l.last ≡ length lines - 1 = omega (arith, l.long, ap length same) in
    record {
      hit = subst (λ (n : ℕ). HitsAt m point w.start w.lines n) last l.hit;
      first = λ n low h. none n (omega arith) h;
    }
