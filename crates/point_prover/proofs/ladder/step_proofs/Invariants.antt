use Rattle.generalise.specs.Effort.{Uses}
use Rattle.point_prover.specs.Good.{AreProved}
use Rattle.point_prover.proofs.ladder.step_proofs.Given as goal

abbrev pub invariant-loop-at : goal.invariant-loop-at
invariant-loop-at l = record {
  proved : AreProved l.system l.lemmas l.at l.proofs;
  uses : Uses l.fn.units l.units;
}
