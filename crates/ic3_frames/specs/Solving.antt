-- What the solver answers of clauses.
use Rattle.std.specs.Prelude.{◌≡◌, ℕ, ◌<◌, List, [], length, ⊤, Option}
use Rattle.cnf_core.specs.Literal.{Literal, Solves, HaveNoSolution}
use Rattle.cnf_core.specs.declared.Line.{Line}
use Rattle.proof_lines.specs.Sinks.{Tells}
use Rattle.sat_core.specs.Answers.{valuation, CoreLines}
use Rattle.generalise.specs.declared.units.Units.{Units}
use Rattle.ic3_frames.specs.declared.solve.Solved.{Solved}
use Rattle.ic3_frames.specs.declared.solve.Solved.TheVariants.{Refuted, Values, Spent}

-- no values solve them, or these do, each for a unit or more; or the effort is used
abbrev pub IsSolved : ℕ → List (List Literal) → Units → Units → Solved → Type 0
IsSolved vars clauses old new Refuted = HaveNoSolution clauses × (old.used < new.used)
IsSolved vars clauses old new (Values values) = (length values ≡ vars) × Solves (valuation values) clauses × (old.used < new.used)
IsSolved vars clauses old new Spent = new.used ≡ new.effort

-- at a sink that tells its lines, those of a refutation add the empty clause
abbrev pub Shows : ℕ → List (List Literal) → Option (List Line) → Option (List Line) → Solved → Type 0
Shows vars clauses was is Refuted = Tells was is (CoreLines vars clauses [])
Shows vars clauses was is (Values values) = ⊤
Shows vars clauses was is Spent = ⊤
