use Rattle.std.proofs.Common.{◌≡◌, ◌++◌, map, drop}
use Rattle.aig_core.specs.Graph.{negation}
use Rattle.word_blast.proofs.loops.negated_word.Given as goal

abbrev pub invariant-loop-i : goal.invariant-loop-i
invariant-loop-i l = record { done : l.bits.items ++ map negation (drop l.i l.a) ≡ map negation l.a }
