use Rattle.std.proofs.Common.{take, All}
use Rattle.cert_text.specs.Spelling.{FitsProof}
use Rattle.text_prover.proofs.numbers.proofs_fit.Given as goal

abbrev pub invariant-loop-proof : goal.invariant-loop-proof
invariant-loop-proof l = All FitsProof (take l.proof-index l.proofs)
