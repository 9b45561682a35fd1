-- What propagation does to a trail.
use Rattle.std.specs.Prelude.{◌≡◌, ℕ, ◌<◌, List, All, None, length}
use Rattle.cnf_core.specs.Literal.{Literal}
use Rattle.sat_core.specs.Trailed.{Trailed, Good, Extends, IsQuiet, reason_at}
use Rattle.sat_core.specs.Watching.{Watching, AreWatched}

-- literals with reasons were put at the end
pub record Propagates (clauses : List (List Literal)) (t u : Trailed) : Type 0 where
  pub good : Good clauses u
  pub extends : Extends t u
  pub decided : (d : ℕ) → d < length u.falses → reason_at u d ≡ None → (d < length t.falses) × (reason_at t d ≡ None)

-- all clauses are watched, and there is nothing to propagate
pub record IsComplete (clauses : List (List Literal)) (falses : List Literal) (w : Watching) : Type 0 where
  pub whole : length w.pairs ≡ length clauses
  pub watched : AreWatched clauses w.pairs falses falses
  pub quiet : All (IsQuiet falses) clauses
