use Rattle.std.proofs.Common.{arith, refl}
use Rattle.cert_text.specs.Spelling.{FitsProof}
use Rattle.text_prover.proofs.Loops.{all_taken, tested_more}
use Rattle.text_prover.proofs.numbers.proofs_fit.Goals as goal

pub loop-proof-preserved : goal.loop-proof-preserved
loop-proof-preserved c = tested_more FitsProof c.args.proofs.now c.loop-proof.proof-index c.proof-item.result c.proof_fits.result c.loop-proof-test.true c.proof-item.is c.proof_fits.ensures.0 c.if-not-proof_fits.false c.loop-proof.invariant

pub returns : goal.returns
returns c = (λ _. all_taken FitsProof c.args.proofs.now c.loop-proof.proof-index (omega arith) c.loop-proof.invariant, λ _. refl)
