-- What is read from the text of a certificate.
use Rattle.std.specs.Prelude.{◌≡◌, ℕ, ◌+◌, ◌<◌, ◌^◌, List, [], ◌∷◌, length, Result, Ok, Err}
use Rattle.std.specs.List.{AllByRecursion}
use Rattle.line_text.specs.Lines.{words}
use Rattle.cert_text.specs.declared.error.CertError.{CertError}
use Rattle.cert_text.specs.declared.error.CertError.TheVariants.{BadCert, Memory}
use Rattle.cert_text.specs.declared.cert.CertClaim.{CertClaim}
use Rattle.cert_text.specs.declared.cert.Cert.{Cert}
use Rattle.cert_text.specs.Points.{IsPoint}
use Rattle.cert_text.specs.Spelling.{setup_lines, claim_lines, spelling, FitsSetup, FitsBody}
use Rattle.cert_text.specs.Answers.{CertAnswers}

-- ---- the numbers of the claims' lines

-- claims of which the first begins at line n, each with the number of its line
abbrev pub lined_from : ℕ → List CertClaim → List CertClaim
lined_from n [] = []
lined_from n (c ∷ cs) = record { line = n; point = c.point; body = c.body } ∷ lined_from (n + length (claim_lines c)) cs

-- the certificate, each claim with the number of the line at which it begins in the certificate's text
abbrev pub lined : Cert → Cert
lined c = record { setup = c.setup; claims = lined_from (length (setup_lines c.setup) + 2) c.claims }

-- a certificate that has a spelling, whatever the numbers of its claims' lines
pub record FitsButLines (c : Cert) : Type 0 where
  pub setup : FitsSetup c.setup
  pub count : length c.claims < 2 ^ 63
  pub claims : AllByRecursion (λ x. IsPoint (words x.point) × FitsBody x.body) c.claims

-- ---- reading it again

-- this certificate, unless memory runs out
abbrev pub Gives : Cert → Result Cert CertError → Type 0
Gives cert (Ok other) = other ≡ cert
Gives cert (Err (BadCert line)) = ⊥
Gives cert (Err Memory) = Unit {0}

-- reading this text may give this certificate, and can give no other and no bad line
pub record Reads (text : List ℕ) (cert : Cert) : Type 0 where
  pub given : CertAnswers text (Ok cert)
  pub only : (answer : Result Cert CertError) → CertAnswers text answer → Gives cert answer

-- what is read spells the text that it was read from, and has the numbers of its lines
abbrev pub ReadIsWritten : Type 0
ReadIsWritten = (text : List ℕ) (cert : Cert) → CertAnswers text (Ok cert) → (spelling cert ≡ text) × FitsButLines cert × (lined cert ≡ cert)

-- what is spelled is read, with the numbers of its lines
abbrev pub WrittenIsRead : Type 0
WrittenIsRead = (cert : Cert) → FitsButLines cert → Reads (spelling cert) (lined cert)
