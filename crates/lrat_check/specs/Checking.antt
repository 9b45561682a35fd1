-- What a caller sees of a checker.
use Rattle.std.specs.Prelude.{◌≡◌, ℕ, ◌+◌, ◌≤◌, length}
use Rattle.cnf_core.specs.Lrat.{State}
use Rattle.cnf_core.specs.declared.Line.{Line}
use Rattle.cnf_core.specs.declared.Line.TheVariants.{Add, Delete}

-- the largest variable, what stands so far, and how many added lines and their literals have room
pub record Checking : Type 0 where
  pub vars : ℕ
  pub state : State
  pub lines_left : ℕ
  pub lits_left : ℕ

-- how many clauses the line adds
abbrev pub lines_in : Line → ℕ
lines_in (Add id lits hints) = 1
lines_in (Delete id ids) = 0

-- how many literals the line adds
abbrev pub lits_in : Line → ℕ
lits_in (Add id lits hints) = length lits.items
lits_in (Delete id ids) = 0

-- the line has room
abbrev pub HasRoom : Checking → Line → Type 0
HasRoom c line = (lines_in line ≤ c.lines_left) × (lits_in line ≤ c.lits_left)

-- the room is less by what the line adds
abbrev pub TakesRoom : Checking → Line → Checking → Type 0
TakesRoom c line d = (d.lines_left + lines_in line ≡ c.lines_left) × (d.lits_left + lits_in line ≡ c.lits_left)
