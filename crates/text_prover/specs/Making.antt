-- What is made of a text before it is checked.
use Rattle.std.specs.Prelude.{ℕ, ◌≡◌, List, map, Result, Ok, Err}
use Rattle.design_core.specs.Ordered.{Ordered}
use Rattle.bit_system.specs.Machine.{Machine}
use Rattle.plain_blast.specs.Plain.{plain_of}
use Rattle.plain_blast.specs.Bridge.{Bridge}
use Rattle.cert_text.specs.declared.cert.CertClaim.{CertClaim}
use Rattle.cert_text.specs.Written.{lined, FitsButLines, Reads}
use Rattle.cover_points.specs.declared.point.Point.{Point}
use Rattle.cover_points.specs.Points.{site_of}
use Rattle.text_prover.specs.Claims.{AreClaimsFor}
use Rattle.vlog_syntax.specs.declared.module.Tree.{Tree}
use Rattle.vlog_modules.specs.Answers.{TextAnswers}
use Rattle.design_core.specs.declared.setup.Kinds.{Kinds}
use Rattle.design_core.specs.declared.setup.Setup.{Setup}
use Rattle.cert_text.specs.declared.cert.Cert.{Cert}
use Rattle.cert_text.specs.declared.claim.Claim.{Claim}
use Rattle.cert_text.specs.Answers.{CertAnswers}
use Rattle.source_check.specs.declared.error.SourceError.{SourceError}
use Rattle.source_check.specs.Judging.{Judges, told}
use Rattle.source_check.specs.Checking.{FrontAnswers}
use Rattle.text_prover.specs.declared.making.Made.{Made}
use Rattle.text_prover.specs.Proving.{setup_of, units_of}

-- the claims are for these points of a legal design, by what was found out of the points of its system
pub record AreClaimed (legal : Ordered) (points : List Point) (effort : ℕ) (claims : List CertClaim) (used : List ℕ) : Type 0 where
  pub sites : List ℕ
  pub of_points : sites ≡ map (λ (p : Point). site_of p.test) points
  pub system : Machine
  pub exact : system ≡ plain_of legal.design legal.order sites
  pub bridge : Bridge legal.design sites system
  pub claimed : AreClaimsFor system effort points claims used

-- the bytes are read as the certificate of these claims, where it can be spelled, and the units are these
pub record IsWritten (setup : Setup) (claims : List CertClaim) (used : List ℕ) (made : Made) : Type 0 where
  pub readable : FitsButLines (record { setup = setup; claims = claims }) → Reads made.cert.items (lined (record { setup = setup; claims = claims }))
  pub units : made.used ≡ used

-- the bytes spell a certificate under these settings that is accepted for the text, and so many units were used for its claims
pub record IsMade (text top clock : List ℕ) (kinds : Kinds) (effort : ℕ) (bytes used : List ℕ) : Type 0 where
  pub tree : Tree
  pub cert : Cert
  pub of_text : TextAnswers text (Ok tree)
  pub of_spelling : CertAnswers bytes (Ok cert)
  pub setup : cert.setup ≡ setup_of top clock kinds
  pub accepted : Judges tree cert (Ok (map told cert.claims))
  pub units : used ≡ map (λ (c : Claim). units_of effort c.verdict) (map told cert.claims)

-- the answer of making it: why there is nothing to make it of, in the words of the front; nothing where memory ran out
abbrev pub MakeAnswers : List ℕ → Setup → ℕ → Result Made SourceError → Type 0
MakeAnswers text setup effort (Ok made) = IsMade text setup.top setup.clock setup.kinds effort made.cert.items made.used
MakeAnswers text setup effort (Err error) = FrontAnswers text setup (Err error)
