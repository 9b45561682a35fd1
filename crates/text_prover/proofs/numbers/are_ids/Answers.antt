use Rattle.std.proofs.Common.{arith, get_or, refl}
use Rattle.std.proofs.lemmas.List.{get_or_default}
use Rattle.proof_lines.specs.Spelling.{IsId}
use Rattle.text_prover.proofs.Loops.{all_taken, taken_more}
use Rattle.text_prover.proofs.numbers.are_ids.Goals as goal

pub loop-id-preserved : goal.loop-id-preserved
loop-id-preserved c = taken_more IsId c.args.ids.now c.loop-id.id-index (get_or c.args.ids.now c.loop-id.id-index 0) c.loop-id-test.true (get_or_default c.args.ids.now c.loop-id.id-index 0 (get_or c.args.ids.now c.loop-id.id-index 0) c.loop-id-test.true) (c.is_id.ensures.0 c.if-not-is_id.false) c.loop-id.invariant

pub returns : goal.returns
returns c = (λ _. all_taken IsId c.args.ids.now c.loop-id.id-index (omega arith) c.loop-id.invariant, λ _. refl)
