-- What is proved of a text.
use Rattle.std.specs.Prelude.{ℕ, ◌≡◌, List, [], map, Result, Ok, Err}
use Rattle.vlog_syntax.specs.declared.module.Tree.{Tree}
use Rattle.vlog_modules.specs.Answers.{TextAnswers}
use Rattle.design_core.specs.declared.setup.Kinds.{Kinds}
use Rattle.design_core.specs.declared.setup.Setup.{Setup}
use Rattle.cert_text.specs.declared.cert.Cert.{Cert}
use Rattle.cert_text.specs.declared.claim.Claim.{Claim}
use Rattle.cert_text.specs.declared.claim.Verdict.{Verdict}
use Rattle.cert_text.specs.declared.claim.Verdict.TheVariants.{Reached, Excluded, Open}
use Rattle.cert_text.specs.Answers.{CertAnswers}
use Rattle.source_check.specs.declared.error.SourceError.{SourceError}
use Rattle.source_check.specs.Judging.{Judges, AreTrue}
use Rattle.source_check.specs.Checking.{FrontAnswers}
use Rattle.text_prover.specs.declared.proving.Proven.{Proven}

-- the settings under which a text is proved: these names, no prelude, and the points of these kinds
abbrev pub setup_of : List ℕ → List ℕ → Kinds → Setup
setup_of top clock kinds = record {
  top = top;
  clock = clock;
  hold = [];
  cycles = 0;
  kinds = kinds;
  fsm = [];
}

-- the units that are told of a claim: those that its search used, where it is left open
abbrev pub units_of : ℕ → Verdict → ℕ
units_of effort (Open cycles) = effort
units_of effort Excluded = 0
units_of effort (Reached cycle) = 0

-- the certificate's text is accepted for the text under these settings, its claims are true, and for each that is open the whole effort was used
pub record IsProven (text top clock : List ℕ) (kinds : Kinds) (effort : ℕ) (p : Proven) : Type 0 where
  pub tree : Tree
  pub cert : Cert
  pub of_text : TextAnswers text (Ok tree)
  pub of_spelling : CertAnswers p.cert.items (Ok cert)
  pub setup : cert.setup ≡ setup_of top clock kinds
  pub accepted : Judges tree cert (Ok p.claims)
  pub are_true : AreTrue tree cert p.claims
  pub used : p.used ≡ map (λ (c : Claim). units_of effort c.verdict) p.claims

-- the answer of proving: what was proved; or why the text has no points, in the words of the front; nothing where memory ran out
abbrev pub ProveAnswers : List ℕ → List ℕ → List ℕ → Kinds → ℕ → Result Proven SourceError → Type 0
ProveAnswers text top clock kinds effort (Ok p) = IsProven text top clock kinds effort p
ProveAnswers text top clock kinds effort (Err error) = FrontAnswers text (setup_of top clock kinds) (Err error)
