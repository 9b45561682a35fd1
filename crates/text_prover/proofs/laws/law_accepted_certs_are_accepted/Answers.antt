use Rattle.text_prover.proofs.OneAnswer.{accepted_is_accepted}
use Rattle.text_prover.proofs.laws.law_accepted_certs_are_accepted.Goals as goal

pub returns : goal.returns
returns c = accepted_is_accepted
