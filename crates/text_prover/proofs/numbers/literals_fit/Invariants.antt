use Rattle.std.proofs.Common.{take, All}
use Rattle.proof_lines.specs.Spelling.{IsLiteral}
use Rattle.text_prover.proofs.numbers.literals_fit.Given as goal

abbrev pub invariant-loop-lit : goal.invariant-loop-lit
invariant-loop-lit l = All IsLiteral (take l.lit-index l.lits)
