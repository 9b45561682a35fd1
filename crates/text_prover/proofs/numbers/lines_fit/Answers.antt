use Rattle.std.proofs.Common.{arith, refl}
use Rattle.cnf_core.specs.declared.Line.{Line}
use Rattle.bit_system.specs.ProofLines.{seen}
use Rattle.proof_lines.specs.Spelling.{Fits}
use Rattle.cert_text.specs.Spelling.{plain_line}
use Rattle.text_prover.proofs.Loops.{all_taken, tested_more}
use Rattle.text_prover.proofs.numbers.lines_fit.Goals as goal

pub loop-line-preserved : goal.loop-line-preserved
loop-line-preserved c = tested_more (λ (x : Line). Fits (plain_line (seen x))) c.args.lines.now c.loop-line.line-index c.line-item.result c.line_fits.result c.loop-line-test.true c.line-item.is c.line_fits.ensures.0 c.if-not-line_fits.false c.loop-line.invariant

pub returns : goal.returns
returns c = (λ _. all_taken (λ (x : Line). Fits (plain_line (seen x))) c.args.lines.now c.loop-line.line-index (omega arith) c.loop-line.invariant, λ _. refl)
