-- Units of effort, before and after a call.
use Rattle.std.specs.Prelude.{◌≡◌, ◌≤◌}
use Rattle.generalise.specs.declared.units.Units.{Units}

-- the effort stays, and what is used doesn't fall
pub record Uses (old new : Units) : Type 0 where
  pub effort : new.effort ≡ old.effort
  pub used : old.used ≤ new.used
