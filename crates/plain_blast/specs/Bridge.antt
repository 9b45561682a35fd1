-- What a system has to do with the design that it was made from.
use Rattle.std.specs.Prelude.{ℕ, ◌≡◌, ◌↔◌, Bool, true, List, slice_get, Some}
use Rattle.design_core.specs.declared.flat.Design.{Design}
use Rattle.design_core.specs.declared.setup.Setup.{Setup}
use Rattle.design_core.specs.Settled.{Settled, next_of, Hit}
use Rattle.design_core.specs.Runs.{MayStart}
use Rattle.design_core.specs.Verdicts.{Passes, NotWithin, Never}
use Rattle.bit_system.specs.Machine.{Machine, IsStart, value_in_step, next_state, hit_literal}
use Rattle.bit_system.specs.declared.ladder.Depth.TheVariants.{All, Steps}
use Rattle.bit_system.specs.Ladders.{NeverHits}

-- Cycle by cycle: a state is the values of the registers. From these and under the inputs of a settled cycle, the next literals are
-- the registers after it, and a hit literal is 1 exactly where the site is hit.
pub record Follows (d : Design) (sites : List ℕ) (m : Machine) : Type 0 where
  pub starts : (held : List Bool) → MayStart d held ↔ IsStart m held
  pub next : (held line v : List Bool) → Settled d held line v → next_state m held line ≡ next_of d v
  pub hits : (held line v : List Bool) → Settled d held line v → (k site : ℕ) → slice_get sites k ≡ Some site →
      (value_in_step m held line (hit_literal m k) ≡ true) ↔ Hit d v site

-- and so, where there is no prelude, no walk hits the point of a site exactly where no run hits the site
pub record Bridge (d : Design) (sites : List ℕ) (m : Machine) : Type 0 where
  pub cycle : Follows d sites m
  pub never : (setup : Setup) (k site : ℕ) → setup.cycles ≡ 0 → slice_get sites k ≡ Some site → NeverHits m k All ↔ Never d setup (Passes d site)
  pub within : (setup : Setup) (k site n : ℕ) → setup.cycles ≡ 0 → slice_get sites k ≡ Some site → NeverHits m k (Steps n) ↔ NotWithin d setup (Passes d site) n
