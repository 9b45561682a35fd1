-- What holds of cones: walks of the whole system are walks of the cone, lemmas of the cone are lemmas of the whole system.
use Rattle.std.specs.Prelude.{◌≡◌, ◌↔◌, ℕ, ◌<◌, List, Bool, map, length, All as Each}
use Rattle.bit_system.specs.declared.ladder.Lemma.{Lemma}
use Rattle.bit_system.specs.Machine.{Machine, IsMachine, IsState, IsInput, IsStart, HitsAt, state_after}
use Rattle.bit_system.specs.Ladders.{lemma_true}
use Rattle.bit_system.specs.Accepted.{true_at_start}
use Rattle.point_cone.specs.Back.{whole_lemma}
use Rattle.point_cone.specs.Parts.{part, IsCone}
use Rattle.point_cone.specs.declared.build.Cone.{Cone}

-- a start and lines of inputs of the whole system, seen by the cone
pub record IsSeen (whole : Machine) (cone : Cone) (start : List Bool) (lines : List (List Bool)) : Type 0 where
  pub starts : IsStart whole start → IsStart cone.system (part cone.states start)
  pub each_input : Each (IsInput cone.system) (map (part cone.inputs) lines)
  pub after : state_after cone.system (part cone.states start) (map (part cone.inputs) lines) ≡ part cone.states (state_after whole start lines)
  pub hits : (t : ℕ) → HitsAt cone.system 0 (part cone.states start) (map (part cone.inputs) lines) t ↔ HitsAt whole cone.point start lines t

abbrev pub WalksAreSeen : Type 0
WalksAreSeen =
    (whole : Machine) (cone : Cone) (start : List Bool) (lines : List (List Bool)) →
    IsMachine whole → IsCone whole cone → IsState whole start → Each (IsInput whole) lines → IsSeen whole cone start lines

-- a lemma of the cone, as one of the whole system
pub record IsSame (whole : Machine) (cone : Cone) (lemma : Lemma) : Type 0 where
  pub in_state : (state : List Bool) → lemma_true state (whole_lemma cone.states lemma) ≡ lemma_true (part cone.states state) lemma
  pub at_start : true_at_start whole (whole_lemma cone.states lemma) ≡ true_at_start cone.system lemma

abbrev pub LemmasAreSame : Type 0
LemmasAreSame = (whole : Machine) (cone : Cone) (lemma : Lemma) → IsCone whole cone → Each (λ l. l.state < length cone.states) lemma.lits → IsSame whole cone lemma
