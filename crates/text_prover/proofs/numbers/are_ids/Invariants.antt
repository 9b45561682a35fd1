use Rattle.std.proofs.Common.{take, All}
use Rattle.proof_lines.specs.Spelling.{IsId}
use Rattle.text_prover.proofs.numbers.are_ids.Given as goal

abbrev pub invariant-loop-id : goal.invariant-loop-id
invariant-loop-id l = All IsId (take l.id-index l.ids)
