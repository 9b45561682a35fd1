-- How many literals of a clause aren't false.
use Rattle.std.specs.Prelude.{◌≡◌, ◌≤◌, List, [], ◌∷◌, length}
use Rattle.cnf_core.specs.Literal.{Literal}
use Rattle.lrat_check.specs.declared.hints.Open.{Open}
use Rattle.lrat_check.specs.declared.hints.Open.TheVariants.{Nothing, One, More}

-- none of these, the only one, or more
abbrev pub IsOpen : List Literal → Open → Type 0
IsOpen ls Nothing = ls ≡ []
IsOpen ls (One l) = ls ≡ l ∷ []
IsOpen ls More = 2 ≤ length ls
