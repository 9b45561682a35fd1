use Rattle.std.proofs.Common.{arith}
use Rattle.proof_lines.specs.Spelling.{IsLiteral}
use Rattle.text_prover.proofs.Loops.{all_taken, taken_more}
use Rattle.text_prover.proofs.numbers.literals_fit.Goals as goal

pub loop-lit-preserved : goal.loop-lit-preserved
loop-lit-preserved c = taken_more IsLiteral c.args.lits.now c.loop-lit.lit-index c.lit-item.result c.loop-lit-test.true c.lit-item.is (omega arith, omega arith) c.loop-lit.invariant

pub returns : goal.returns
returns c = all_taken IsLiteral c.args.lits.now c.loop-lit.lit-index (omega arith) c.loop-lit.invariant
