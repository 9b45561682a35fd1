-- What is known of a solver.
use Rattle.std.specs.Prelude.{ℕ, List}
use Rattle.cnf_core.specs.Literal.{Literal}
use Rattle.sat_core.specs.Search.{added_in, learnt_in, vars_in}
use Rattle.sat_core.specs.declared.solver.Solver.{Solver}

-- the greatest variable
abbrev pub vars_of : {P : Type 0} → Solver P → ℕ
vars_of s = vars_in s.search

-- the added clauses, in the order of their numbers
abbrev pub added_to : {P : Type 0} → Solver P → List (List Literal)
added_to s = added_in s.search

-- the clauses that the last call has learnt
abbrev pub learnt_by : {P : Type 0} → Solver P → List (List Literal)
learnt_by s = learnt_in s.search

-- the added clauses, and then those that the last call has learnt
abbrev pub clauses_of : {P : Type 0} → Solver P → List (List Literal)
clauses_of s = s.search.clauses

-- where the lines go
abbrev pub sink_of : {P : Type 0} → Solver P → P
sink_of s = s.sink
