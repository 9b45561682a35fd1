-- Which fault a line has.
use Rattle.std.specs.Prelude.{◌≡◌, ℕ, ◌<◌, ◌≤◌, List, Err, IsOk}
use Rattle.cnf_core.specs.Literal.{Literal}
use Rattle.cnf_core.specs.Lrat.{State, HasGoodVars, read_hints, delete_all, Rup}
use Rattle.cnf_core.specs.declared.Ending.TheVariants.{NoHint as EndsNoHint, NotUnit as EndsNotUnit, RanOut}
use Rattle.cnf_core.specs.declared.Line.{Line}
use Rattle.cnf_core.specs.declared.Line.TheVariants.{Add, Delete}
use Rattle.lrat_check.specs.declared.checker.LineFault.{LineFault}
use Rattle.lrat_check.specs.declared.checker.LineFault.TheVariants.{OldId, BadVar, NoHint, NotUnit, NotClosed}

-- the fault of an addition, in the order of the tests
abbrev pub IsAddFault : ℕ → State → ℕ → List Literal → List ℕ → LineFault → Type 0
IsAddFault vars s id lits hints (OldId n) = (n ≡ id) × (id ≤ s.last)
IsAddFault vars s id lits hints (BadVar n) = (n ≡ id) × (s.last < id) × (HasGoodVars vars lits → ⊥)
IsAddFault vars s id lits hints (NoHint n) = (s.last < id) × HasGoodVars vars lits × (read_hints s.live lits hints ≡ EndsNoHint n)
IsAddFault vars s id lits hints (NotUnit n) = (s.last < id) × HasGoodVars vars lits × (read_hints s.live lits hints ≡ EndsNotUnit n)
IsAddFault vars s id lits hints (NotClosed n) = (n ≡ id) × (s.last < id) × HasGoodVars vars lits × (read_hints s.live lits hints ≡ RanOut)

-- the fault of a deletion: the first number that no live clause has, where those before it are removed
abbrev pub IsDeleteFault : State → List ℕ → LineFault → Type 0
IsDeleteFault s ids (OldId n) = ⊥
IsDeleteFault s ids (BadVar n) = ⊥
IsDeleteFault s ids (NoHint n) = delete_all s.live ids ≡ Err n
IsDeleteFault s ids (NotUnit n) = ⊥
IsDeleteFault s ids (NotClosed n) = ⊥

-- the fault of a line
abbrev pub IsFault : ℕ → State → Line → LineFault → Type 0
IsFault vars s (Add id lits hints) f = IsAddFault vars s id lits.items hints.items f
IsFault vars s (Delete id ids) f = IsDeleteFault s ids.items f

-- the line may stand here
abbrev pub IsAccepted : ℕ → State → Line → Type 0
IsAccepted vars s (Add id lits hints) = Rup vars s id lits.items hints.items
IsAccepted vars s (Delete id ids) = IsOk (delete_all s.live ids.items)
