use Rattle.std.proofs.Common.{◌≡◌, map, take}
use Rattle.text_prover.specs.Naming.{named_lemma}
use Rattle.text_prover.proofs.naming.named_lemmas.Given as goal

abbrev pub invariant-loop-lemma : goal.invariant-loop-lemma
invariant-loop-lemma l = l.named ≡ map (named_lemma l.states) (take l.lemma-index l.lemmas)
