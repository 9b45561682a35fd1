use Rattle.cert_text.proofs.Lined.{read_is_written}
use Rattle.cert_text.proofs.write.law_read_certs_are_written_back.Goals as goal

pub returns : goal.returns
returns c = read_is_written
