use Rattle.unr_engine.proofs.messages.say_cert_error.Goals as goal

pub returns-in-BadCert : goal.returns-in-BadCert
returns-in-BadCert g c = rw c.in-BadCert.is c.put_all.ensures
