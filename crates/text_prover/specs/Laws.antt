-- What checking answers for a certificate that is accepted.
use Rattle.std.specs.Prelude.{ℕ, ◌≡◌, List, Result, Ok, Err}
use Rattle.vlog_syntax.specs.declared.module.Tree.{Tree}
use Rattle.vlog_modules.specs.Answers.{TextAnswers}
use Rattle.cert_text.specs.declared.cert.Cert.{Cert}
use Rattle.cert_text.specs.declared.claim.Claim.{Claim}
use Rattle.cert_text.specs.Answers.{CertAnswers}
use Rattle.source_check.specs.declared.error.CheckError.{CheckError}
use Rattle.source_check.specs.declared.error.CheckError.TheVariants.{Memory}
use Rattle.source_check.specs.Judging.{Judges}
use Rattle.source_check.specs.Checking.{CheckAnswers}

-- these claims, unless memory runs out
abbrev pub GivesOnly : List Claim → Result (List Claim) CheckError → Type 0
GivesOnly claims (Ok others) = others ≡ claims
GivesOnly claims (Err error) = error ≡ Memory

-- where the certificate that these bytes spell is accepted for the text's tree, checking the bytes gives its claims, or lacks memory
abbrev pub AcceptedIsAccepted : Type 0
AcceptedIsAccepted =
    (text bytes : List ℕ) (tree : Tree) (cert : Cert) (claims : List Claim) → TextAnswers text (Ok tree) → CertAnswers bytes (Ok cert) → Judges tree cert (Ok claims) →
    (answer : Result (List Claim) CheckError) → CheckAnswers text bytes answer → GivesOnly claims answer
