use Rattle.cert_text.proofs.Lined.{written_is_read}
use Rattle.cert_text.proofs.write.law_written_certs_are_read.Goals as goal

pub returns : goal.returns
returns c = written_is_read
