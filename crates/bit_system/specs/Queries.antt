-- The clauses that the proof of a lemma, or of a hit, refutes.
use Rattle.std.specs.Prelude.{ℕ, suc, ◌+◌, ◌-◌, ◌/◌, ◌%◌, ◌==◌, Bool, true, false, if◌then◌else◌, Option, Some, None, List, [], ◌∷◌, ◌++◌, map, replicate, length, slice_index_or, slice_set, All as Each}
use Rattle.std.specs.List.{range_with_len}
use Rattle.cnf_core.specs.Literal.{Literal, Solves, HaveNoSolution}
use Rattle.cnf_core.specs.Gates.{clauses_of_gate}
use Rattle.aig_core.specs.Graph.{Graph, node_count, first_gate, negation, IsLiteral}
use Rattle.aig_core.specs.declared.gate.Gate.{Gate}
use Rattle.bit_system.specs.declared.system.StateInfo.{StateInfo}
use Rattle.bit_system.specs.declared.ladder.Depth.{Depth}
use Rattle.bit_system.specs.declared.ladder.StateLit.{StateLit}
use Rattle.bit_system.specs.declared.ladder.Lemma.{Lemma}
use Rattle.bit_system.specs.Machine.{Machine, IsMachine, next_literal, hit_literal}
use Rattle.bit_system.specs.Ladders.{HasStates, premises, is_first, Satisfies}

-- ---- the cone

-- the nodes of these literals are marked too
abbrev pub mark : List Bool → List ℕ → List Bool
mark marks [] = marks
mark marks (x ∷ xs) = mark (slice_set marks (x / 2) true) xs

-- where the gate's node is marked, so are those that it reads
abbrev pub mark_read : ℕ → Gate → List Bool → List Bool
mark_read n g marks = if slice_index_or marks n false then mark marks (g.left ∷ g.right ∷ []) else marks

-- the marks after one pass over the gates, of which the first is node n, from the last to the first
abbrev pub mark_back : ℕ → List Gate → List Bool → List Bool
mark_back n [] marks = marks
mark_back n (g ∷ gs) marks = mark_read n g (mark_back (suc n) gs marks)

-- which nodes are reached from the literals
abbrev pub cone : Graph → List ℕ → List Bool
cone g roots = mark_back (first_gate g) g.gates (mark (replicate (node_count g) false) roots)

-- ---- clauses

-- the literal of a query that stands for a literal of the circuit: variable n + 1 stands for node n
abbrev pub literal_for : ℕ → Literal
literal_for x = record { variable = x / 2 + 1; positive = x % 2 == 0 }

-- node 0 is false
abbrev pub false_clause : List (List Literal)
false_clause = (record { variable = 1; positive = false } ∷ []) ∷ []

-- the clauses of the gate at node n
abbrev pub gate_clauses_at : ℕ → Gate → List (List Literal)
gate_clauses_at n g = clauses_of_gate (record { variable = n + 1; positive = true }) (literal_for g.left) (literal_for g.right)

-- the clauses of the marked gates, rising
abbrev pub gate_clauses_of : List Bool → ℕ → List Gate → List (List Literal)
gate_clauses_of marks n [] = []
gate_clauses_of marks n (g ∷ gs) =
    (if slice_index_or marks n false then gate_clauses_at n g else []) ++ gate_clauses_of marks (suc n) gs

-- the clauses of the gates of these nodes, from the last node on
abbrev pub listed_clauses : ℕ → List Gate → List ℕ → List (List Literal)
listed_clauses first gates [] = []
listed_clauses first gates (n ∷ ns) =
    listed_clauses first gates ns ++ gate_clauses_at n (slice_index_or gates (n - first) (record { left = 0; right = 0 }))

-- a lemma's literal, where the node of the first state bit is `first`
abbrev pub state_literal : ℕ → StateLit → Literal
state_literal first l = record { variable = first + l.state + 1; positive = l.positive }

-- a lemma as a clause
abbrev pub lemma_clause : ℕ → Lemma → List Literal
lemma_clause first lemma = map (state_literal first) lemma.lits

-- lemmas as clauses, in their order
abbrev pub lemma_clauses : ℕ → List Lemma → List (List Literal)
lemma_clauses first lemmas = map (lemma_clause first) lemmas

-- a unit where the state bit of node n has a starting value
abbrev pub start_clause : ℕ → Option Bool → List (List Literal)
start_clause n None = []
start_clause n (Some b) = (record { variable = n + 1; positive = b } ∷ []) ∷ []

-- a unit for each state bit with a starting value, where node n is that of the first
abbrev pub start_clauses : ℕ → List StateInfo → List (List Literal)
start_clauses n [] = []
start_clauses n (s ∷ ss) = start_clause n s.start ++ start_clauses (suc n) ss

-- a unit for each literal of the circuit
abbrev pub unit_clauses : List ℕ → List (List Literal)
unit_clauses xs = map (λ x. literal_for x ∷ []) xs

-- ---- queries

-- the node of the first state bit
abbrev pub first_state : Machine → ℕ
first_state m = 1 + m.graph.inputs

-- what the clauses say, in order: node 0 is false; the cone of the assumed literals; the lemmas a step before; the start where that is no step; the assumed literals are true
unfoldable pub query_clauses : Machine → Depth → List Lemma → List ℕ → List (List Literal)
query_clauses m depth lemmas assumed =
    false_clause
    ++ gate_clauses_of (cone m.graph assumed) (first_gate m.graph) m.graph.gates
    ++ lemma_clauses (first_state m) (premises depth lemmas)
    ++ (if is_first depth then start_clauses (first_state m) m.states else [])
    ++ unit_clauses assumed

-- the literal that says that the lemma's literal is false after a step
abbrev pub false_after : Machine → StateLit → ℕ
false_after m l = if l.positive then negation (next_literal m l.state) else next_literal m l.state

-- those of all literals of a lemma
abbrev pub all_false_after : Machine → Lemma → List ℕ
all_false_after m lemma = map (false_after m) lemma.lits

-- the step query of a lemma
abbrev pub step_clauses : Machine → List Lemma → Lemma → List (List Literal)
step_clauses m lemmas lemma = query_clauses m lemma.level lemmas (all_false_after m lemma)

-- the hit query of a point
abbrev pub hit_clauses : Machine → Depth → List Lemma → ℕ → List (List Literal)
hit_clauses m depth lemmas point = query_clauses m depth lemmas (hit_literal m point ∷ [])

-- where no values solve a query, no state and input are as it says
abbrev pub RefutedMeansUnsatisfied : Type 0
RefutedMeansUnsatisfied =
    (m : Machine) (depth : Depth) (lemmas : List Lemma) (assumed : List ℕ) (state input : List Bool) →
    IsMachine m → Each (HasStates m) lemmas → HaveNoSolution (query_clauses m depth lemmas assumed) →
    Satisfies m depth lemmas assumed state input → ⊥

-- the state and the input that values of the variables give
abbrev pub state_of : Machine → (ℕ → Bool) → List Bool
state_of m v = map v (range_with_len (first_state m + 1) (length m.states))

-- the same for the inputs
abbrev pub input_of : Machine → (ℕ → Bool) → List Bool
input_of m v = map v (range_with_len 2 m.graph.inputs)

-- values that solve a query give a state and an input that are as it says
abbrev pub SolvedMeansSatisfied : Type 0
SolvedMeansSatisfied =
    (m : Machine) (depth : Depth) (lemmas : List Lemma) (assumed : List ℕ) (v : ℕ → Bool) →
    IsMachine m → Each (HasStates m) lemmas → Each (IsLiteral m.graph) assumed → Solves v (query_clauses m depth lemmas assumed) →
    Satisfies m depth lemmas assumed (state_of m v) (input_of m v)
