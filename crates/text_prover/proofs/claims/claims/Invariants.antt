use Rattle.text_prover.specs.Claims.{AreMadeUpTo}
use Rattle.text_prover.proofs.claims.claims.Given as goal

abbrev pub invariant-loop-k : goal.invariant-loop-k
invariant-loop-k l = AreMadeUpTo l.system l.k l.effort l.points l.claims l.used
