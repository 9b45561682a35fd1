use Rattle.std.proofs.Common.{◌≡◌, [], length}
use Rattle.std.specs.Option.{option_copied}
use Rattle.line_text.specs.Lines.{words_after}
use Rattle.proof_lines.specs.Reading.{id_of, to_zero}
use Rattle.proof_lines.proofs.read.ids.Given as goal

abbrev pub invariant-loop-rest : goal.invariant-loop-rest
invariant-loop-rest l = to_zero id_of l.ids.items (words_after (option_copied l.rest)) ≡ to_zero id_of [] (words_after (option_copied l.fn.words))

abbrev pub decreases-loop-rest : goal.decreases-loop-rest
decreases-loop-rest l = length (words_after (option_copied l.rest))
