-- What reading a certificate answers.
use Rattle.std.specs.Prelude.{◌≡◌, ℕ, List, Result, Ok, Err}
use Rattle.line_text.specs.declared.error.LineError.{LineError}
use Rattle.line_text.specs.declared.error.LineError.TheVariants as lines
use Rattle.cert_text.specs.declared.error.CertError.{CertError}
use Rattle.cert_text.specs.declared.error.CertError.TheVariants.{BadCert, Memory}
use Rattle.cert_text.specs.declared.cert.Cert.{Cert}
use Rattle.cert_text.specs.Spelling.{Fits, spelling, IsFirstBad}

-- what a reader of lines could not read, in the words of certificates
abbrev pub cert_error : LineError → CertError
cert_error lines.Memory = Memory
cert_error (lines.BadLine line) = BadCert line

-- The certificate that fits and is spelled so; or the first line with which no certificate begins, or the line after the last line feed of a text that ends too early; or nothing, where memory ran out.
abbrev pub CertAnswers : List ℕ → Result Cert CertError → Type 0
CertAnswers text (Ok cert) = Fits cert × (text ≡ spelling cert)
CertAnswers text (Err (BadCert line)) = IsFirstBad text line
CertAnswers text (Err Memory) = Unit {0}
