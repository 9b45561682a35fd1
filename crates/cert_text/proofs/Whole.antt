-- What reading a certificate answers.
use Rattle.std.proofs.Common.{◌≡◌, ℕ, List, Ok, Err, Result}
use Rattle.line_text.specs.declared.error.LineError.{LineError}
use Rattle.line_text.specs.declared.error.LineError.TheVariants as lines
use Rattle.line_text.specs.Reading.{Tells}
use Rattle.line_text.proofs.Whole.{is_read, is_bad, one_value, one_bad_line}
use Rattle.cert_text.specs.declared.cert.Cert.{Cert}
use Rattle.cert_text.specs.Spelling.{cert_lines, spelling, FitsAt, Fits, IsFirstBad}
use Rattle.cert_text.specs.Answers.{cert_error, CertAnswers}
use Rattle.cert_text.specs.Certs.{cert_at, cert_of}
use Rattle.cert_text.proofs.Blocks.{cert_reader}

pub answers_ok : (text : List ℕ) (c : Cert) → cert_of text ≡ Ok c → CertAnswers text (Ok c)
unfolding cert_of
answers_ok text c e = is_read cert_lines FitsAt cert_at cert_reader text c e

pub answers_err : (text : List ℕ) (e : LineError) → Tells {X = Cert} (Err e) (cert_of text) → CertAnswers text (Err (cert_error e))
unfolding cert_of
answers_err text lines.Memory h = tt
answers_err text (lines.BadLine line) h = is_bad cert_lines FitsAt cert_at cert_reader text line h

-- a text is the spelling of at most one certificate
pub one_certificate : (c d : Cert) → Fits c → Fits d → spelling c ≡ spelling d → c ≡ d
one_certificate c d f g e = one_value cert_lines FitsAt cert_at cert_reader c d f g e

-- the spelling of a certificate has no bad line
pub good_or_bad : (c : Cert) (line : ℕ) → Fits c → IsFirstBad (spelling c) line → ⊥
good_or_bad c line f bad = bad.never c f Rattle.std.proofs.Common.refl

-- a text has at most one first bad line
pub one_first_bad : (text : List ℕ) (m n : ℕ) → IsFirstBad text m → IsFirstBad text n → m ≡ n
one_first_bad text m n a b = one_bad_line cert_lines Fits text m n a b
