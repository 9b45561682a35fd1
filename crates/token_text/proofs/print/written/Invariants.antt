use Rattle.std.proofs.Common.{◌≡◌, length}
use Rattle.token_text.specs.Printing.{texts, nothing, with_tokens}
use Rattle.token_text.proofs.print.written.Given as goal

abbrev pub invariant-loop-rest : goal.invariant-loop-rest
invariant-loop-rest l = with_tokens l.out (texts l.rest) ≡ with_tokens nothing (texts l.tokens)

abbrev pub decreases-loop-rest : goal.decreases-loop-rest
decreases-loop-rest l = length l.rest
