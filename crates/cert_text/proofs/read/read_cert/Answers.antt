use Rattle.std.proofs.Common.{Err, subst, sym}
use Rattle.cert_text.specs.declared.error.CertError.{CertError}
use Rattle.cert_text.specs.Answers.{CertAnswers}
use Rattle.cert_text.proofs.Whole.{answers_ok, answers_err}
use Rattle.cert_text.proofs.read.read_cert.Goals as goal

pub returns-in-Ok : goal.returns-in-Ok
returns-in-Ok c = record { answers = answers_ok c.args.text.now c.in-Ok.cert c.in-Ok.ensures }

pub returns-in-Err : goal.returns-in-Err
returns-in-Err c = record { answers = subst (λ (e : CertError). CertAnswers c.args.text.now (Err e)) (sym c.from.ensures) (answers_err c.args.text.now c.in-Err.e c.in-Err.ensures) }
