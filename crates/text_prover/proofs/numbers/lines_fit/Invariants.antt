use Rattle.std.proofs.Common.{take, All}
use Rattle.bit_system.specs.ProofLines.{seen}
use Rattle.proof_lines.specs.Spelling.{Fits}
use Rattle.cert_text.specs.Spelling.{plain_line}
use Rattle.text_prover.proofs.numbers.lines_fit.Given as goal

abbrev pub invariant-loop-line : goal.invariant-loop-line
invariant-loop-line l = All (λ line. Fits (plain_line (seen line))) (take l.line-index l.lines)
