use Rattle.std.proofs.Common.{◌≡◌, false, length}
use Rattle.std.specs.Option.{option_copied}
use Rattle.line_text.specs.Lines.{words_after}
use Rattle.proof_lines.specs.Reading.{are_rat_hints}
use Rattle.proof_lines.proofs.read.are_rat_hints.Given as goal

abbrev pub invariant-loop-rest : goal.invariant-loop-rest
invariant-loop-rest l = are_rat_hints l.seen (words_after (option_copied l.rest)) ≡ are_rat_hints false (words_after (option_copied l.fn.words))

abbrev pub decreases-loop-rest : goal.decreases-loop-rest
decreases-loop-rest l = length (words_after (option_copied l.rest))
