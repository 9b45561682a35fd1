use Rattle.std.proofs.Common.{◌≡◌, drop}
use Rattle.std.specs.Prelude.{zip}
use Rattle.bit_exprs.specs.Updates.{perform}
use Rattle.cycle_model.proofs.phases.put_inputs.Given as goal

abbrev pub invariant-loop-k : goal.invariant-loop-k
invariant-loop-k l = perform (drop l.k (zip l.bits l.inputs)) l.values ≡ perform (zip l.bits l.inputs) l.initial.values
