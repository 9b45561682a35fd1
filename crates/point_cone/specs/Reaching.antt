-- Which nodes of a system a point needs: those that its hit literal reads, over any number of steps.
use Rattle.std.specs.Prelude.{◌≡◌, ℕ, ◌+◌, ◌-◌, ◌/◌, ◌<◌, ◌⊎◌, nat_lt, Bool, true, false, cond, List, length, slice_index_or, Contains, All as Each}
use Rattle.std.specs.List.{sum_by}
use Rattle.aig_core.specs.Graph.{node_count, first_gate}
use Rattle.aig_core.specs.declared.gate.Gate.{Gate}
use Rattle.bit_system.specs.Machine.{Machine, next_literal, hit_literal}
use Rattle.bit_system.specs.Queries.{first_state}

-- whether a node is marked
abbrev pub on : List Bool → ℕ → Bool
on marks n = slice_index_or marks n false

abbrev pub gate_of : Machine → ℕ → Gate
gate_of m n = slice_index_or m.graph.gates (n - first_gate m.graph) (record { left = 0; right = 0 })

-- the two literals that give the value of a node: the sides of a gate, the next literal of a state bit; node 0 alone for the others
abbrev pub reads : Machine → ℕ → ℕ × ℕ
reads m n =
    cond (nat_lt n (first_state m)) (0, 0)
    (cond (nat_lt n (first_gate m.graph)) (next_literal m (n - first_state m), next_literal m (n - first_state m)) ((gate_of m n).left, (gate_of m n).right))

-- the nodes that the point needs
pub data IsNeeded : Machine → ℕ → ℕ → Type 0 where
  hit : (m : Machine) (point : ℕ) → IsNeeded m point (hit_literal m point / 2)
  left : (m : Machine) (point n : ℕ) → IsNeeded m point n → IsNeeded m point ((reads m n).0 / 2)
  right : (m : Machine) (point n : ℕ) → IsNeeded m point n → IsNeeded m point ((reads m n).1 / 2)

-- what the node reads is marked
pub record IsDone (m : Machine) (marks : List Bool) (n : ℕ) : Type 0 where
  pub left : on marks ((reads m n).0 / 2) ≡ true
  pub right : on marks ((reads m n).1 / 2) ≡ true

-- so it is for each marked node
abbrev pub AreDone : Machine → List Bool → Type 0
AreDone m marks = (n : ℕ) → on marks n ≡ true → IsDone m marks n

-- how many nodes aren't marked
abbrev pub unmarked : List Bool → ℕ
unmarked marks = sum_by (λ b. cond b 0 1) marks

-- each marked node is needed, and waits or is done
pub record IsUnder (m : Machine) (point : ℕ) (marks : List Bool) (waiting : List ℕ) : Type 0 where
  pub size : length marks ≡ node_count m.graph
  pub in_range : Each (λ n. n < node_count m.graph) waiting
  pub marked : Each (λ n. on marks n ≡ true) waiting
  pub needed : (n : ℕ) → on marks n ≡ true → IsNeeded m point n
  pub each : (n : ℕ) → on marks n ≡ true → Contains waiting n ⊎ IsDone m marks n

-- the needed nodes are marked, and no others
pub record IsReached (m : Machine) (point : ℕ) (marks : List Bool) : Type 0 where
  pub size : length marks ≡ node_count m.graph
  pub hit : on marks (hit_literal m point / 2) ≡ true
  pub needed : (n : ℕ) → on marks n ≡ true → IsNeeded m point n
  pub done : AreDone m marks

-- the node is marked too, and waits where it was not
pub record Reaches (node : ℕ) (marks : List Bool) (waiting : List ℕ) (new_marks : List Bool) (new_waiting : List ℕ) : Type 0 where
  pub size : length new_marks ≡ length marks
  pub marked : on new_marks node ≡ true
  pub kept : (n : ℕ) → on marks n ≡ true → on new_marks n ≡ true
  pub only : (n : ℕ) → on new_marks n ≡ true → (on marks n ≡ true) ⊎ ((n ≡ node) × Contains new_waiting n)
  pub waits : (n : ℕ) → Contains waiting n → Contains new_waiting n
  pub in_range : (most : ℕ) → node < most → Each (λ n. n < most) waiting → Each (λ n. n < most) new_waiting
  pub all_marked : Each (λ n. on marks n ≡ true) waiting → Each (λ n. on new_marks n ≡ true) new_waiting
  pub count : unmarked new_marks + length new_waiting ≡ unmarked marks + length waiting
