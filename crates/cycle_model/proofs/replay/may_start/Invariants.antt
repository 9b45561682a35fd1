use Rattle.std.proofs.Common.{◌≡◌, ◌<◌, ℕ, Bool, Some}
use Rattle.std.specs.Prelude.{slice_get}
use Rattle.design_core.specs.declared.flat.BitInfo.{BitInfo}
use Rattle.bit_exprs.specs.Values.{bit_at}
use Rattle.cycle_model.proofs.replay.may_start.Given as goal

abbrev pub invariant-loop-k : goal.invariant-loop-k
invariant-loop-k l =
    (j b : ℕ) (info : BitInfo) (x : Bool) → j < l.k → slice_get l.registers j ≡ Some b → slice_get l.design.bits b ≡ Some info → info.start ≡ Some x → bit_at l.start j ≡ x
