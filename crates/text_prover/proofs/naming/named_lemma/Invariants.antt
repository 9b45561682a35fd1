use Rattle.std.proofs.Common.{◌≡◌, map, take}
use Rattle.text_prover.specs.Naming.{named_lit}
use Rattle.text_prover.proofs.naming.named_lemma.Given as goal

abbrev pub invariant-loop-lit : goal.invariant-loop-lit
invariant-loop-lit l = l.lits ≡ map (named_lit l.states) (take l.lit-index l.lemma.lits)
