use Rattle.std.proofs.Common.{◌≡◌, [], length}
use Rattle.std.specs.Option.{option_copied}
use Rattle.line_text.specs.Lines.{words_after}
use Rattle.cert_text.specs.Ladders.{lits_after}
use Rattle.cert_text.proofs.lemma.lits_after.Given as goal

abbrev pub invariant-loop-rest : goal.invariant-loop-rest
invariant-loop-rest l = lits_after l.lits (words_after (option_copied l.rest)) ≡ lits_after [] (words_after (option_copied l.fn.words))

abbrev pub decreases-loop-rest : goal.decreases-loop-rest
decreases-loop-rest l = length (words_after (option_copied l.rest))
