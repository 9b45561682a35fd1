-- Lemmas with levels, and what a ladder of them claims.
use Rattle.std.specs.Prelude.{◌≡◌, ℕ, ◌-◌, ◌<◌, ◌==◌, nat_le, Bool, true, false, not, cond, List, filter, length, slice_index_or, All as Each}
use Rattle.std.specs.List.{list_any}
use Rattle.bit_system.specs.declared.ladder.Depth.{Depth}
use Rattle.bit_system.specs.declared.ladder.Depth.TheVariants.{All, Steps}
use Rattle.bit_system.specs.declared.ladder.StateLit.{StateLit}
use Rattle.bit_system.specs.declared.ladder.Lemma.{Lemma}
use Rattle.bit_system.specs.Machine.{Machine, IsState, IsInput, IsStart, IsWalk, HitsAt, value_in_step}

-- whether what is of the first depth holds as far as the second
abbrev pub is_at_least : Depth → Depth → Bool
is_at_least All d = true
is_at_least (Steps m) All = false
is_at_least (Steps m) (Steps n) = nat_le n m

-- a step less
abbrev pub previous : Depth → Depth
previous All = All
previous (Steps m) = Steps (m - 1)

-- whether this is one step: the start stands before it
abbrev pub is_first : Depth → Bool
is_first All = false
is_first (Steps m) = m == 1

-- the lemmas that hold a step before this depth: those of that level and above
abbrev pub premises : Depth → List Lemma → List Lemma
premises depth lemmas = filter (λ l. is_at_least l.level (previous depth)) lemmas

-- the literal is true in the state
abbrev pub lit_true : List Bool → StateLit → Bool
lit_true state l = cond l.positive (slice_index_or state l.state false) (not (slice_index_or state l.state false))

-- one of the lemma's literals is true
abbrev pub lemma_true : List Bool → Lemma → Bool
lemma_true state lemma = list_any (lit_true state) lemma.lits

-- the lemma's state bits exist
abbrev pub HasStates : Machine → Lemma → Type 0
HasStates m lemma = Each (λ l. l.state < length m.states) lemma.lits

-- no walk hits the point within the depth
abbrev pub NeverHits : Machine → ℕ → Depth → Type 0
NeverHits m point All = (start : List Bool) (inputs : List (List Bool)) (t : ℕ) → IsWalk m start inputs → HitsAt m point start inputs t → ⊥
NeverHits m point (Steps n) = (start : List Bool) (inputs : List (List Bool)) (t : ℕ) → IsWalk m start inputs → t < n → HitsAt m point start inputs t → ⊥

-- a state and an input of which the query speaks: the premises hold, at the first step the state is a start, and the assumed literals are true
pub record Satisfies (m : Machine) (depth : Depth) (lemmas : List Lemma) (assumed : List ℕ) (state input : List Bool) : Type 0 where
  pub is_state : IsState m state
  pub is_input : IsInput m input
  pub premises_hold : Each (λ l. lemma_true state l ≡ true) (premises depth lemmas)
  pub starts : is_first depth ≡ true → IsStart m state
  pub assumed_true : Each (λ x. value_in_step m state input x ≡ true) assumed
