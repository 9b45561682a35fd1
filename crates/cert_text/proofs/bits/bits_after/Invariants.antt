use Rattle.std.proofs.Common.{◌≡◌, [], length}
use Rattle.cert_text.specs.Certs.{bits_after}
use Rattle.cert_text.proofs.bits.bits_after.Given as goal

abbrev pub invariant-loop-rest : goal.invariant-loop-rest
invariant-loop-rest l = bits_after l.bits l.rest ≡ bits_after [] l.word

abbrev pub decreases-loop-rest : goal.decreases-loop-rest
decreases-loop-rest l = length l.rest
