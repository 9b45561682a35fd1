use Rattle.std.proofs.Common.{◌≡◌, false, None, [], take}
use Rattle.std.specs.Prelude.{slice_index_or}
use Rattle.std.specs.List.{list_any}
use Rattle.bit_system.specs.Accepted.{starts_as}
use Rattle.ladder_check.proofs.check.true_at_start.Given as goal

abbrev pub invariant-loop-lit : goal.invariant-loop-lit
invariant-loop-lit l =
    list_any (λ x. starts_as (slice_index_or l.states x.state (record { name = []; start = None })).start x.positive) (take l.lit-index l.lit-items) ≡ false
