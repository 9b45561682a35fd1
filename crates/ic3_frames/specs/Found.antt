-- The state and the input that a solver's values give.
use Rattle.std.specs.Prelude.{◌≡◌, ℕ, length, ⊤}
use Rattle.sat_core.specs.Answers.{valuation}
use Rattle.bit_system.specs.Machine.{Machine}
use Rattle.bit_system.specs.Queries.{state_of, input_of}
use Rattle.ic3_frames.specs.declared.solve.Solved.{Solved}
use Rattle.ic3_frames.specs.declared.solve.Solved.TheVariants as solved
use Rattle.ic3_frames.specs.declared.query.Query.{Query}
use Rattle.ic3_frames.specs.declared.query.Query.TheVariants.{Refuted, Found, Spent}

-- there is a value for each variable
abbrev pub HasValues : ℕ → Solved → Type 0
HasValues vars (solved.Values values) = length values ≡ vars
HasValues vars solved.Refuted = ⊤
HasValues vars solved.Spent = ⊤

-- what a query finds where the solver answers so
abbrev pub IsAnswerOf : Machine → Solved → Query → Type 0
IsAnswerOf m solved.Refuted q = q ≡ Refuted
IsAnswerOf m (solved.Values values) q = q ≡ Found (state_of m (valuation values)) (input_of m (valuation values))
IsAnswerOf m solved.Spent q = q ≡ Spent
