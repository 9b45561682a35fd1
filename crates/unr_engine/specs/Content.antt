-- What the bytes of its files make a command do.
use Rattle.std.specs.Prelude.{◌≡◌, ℕ, Bool, false, List, [], ◌∷◌, ◌++◌, Ok, Err, codes}
use Rattle.design_core.specs.declared.setup.Kinds.{Kinds}
use Rattle.vlog_syntax.specs.declared.module.Tree.{Tree}
use Rattle.vlog_modules.specs.Answers.{TextAnswers}
use Rattle.cert_text.specs.declared.error.CertError.{CertError}
use Rattle.cert_text.specs.declared.claim.Claim.{Claim}
use Rattle.cert_text.specs.Answers.{CertAnswers}
use Rattle.source_check.specs.Checking.{ReadAndJudged, FrontAnswers}
use Rattle.every_order.specs.Truth.{AreTrueInEveryOrder}
use Rattle.text_prover.specs.declared.proving.Proven.{Proven}
use Rattle.text_prover.specs.Proving.{setup_of, IsProven}
use Rattle.unr_engine.specs.declared.stop.Refusal.{Refusal}
use Rattle.unr_engine.specs.declared.stop.Refusal.TheVariants as refusal
use Rattle.unr_engine.specs.Report.{report, some_open, proof_report, exclusions}
use Rattle.unr_engine.specs.Words.{Command, Check_files, Prove_file}

-- What a command makes of the bytes: the files that it stores, in order, the text that it then puts out, and whether a claim that it wrote is left open.
pub record Work : Type 0 where
  pub stores : List (List ℕ × List ℕ)
  pub text : List ℕ
  pub left_open : Bool

-- FILE's text has a tree, and CERT spells no certificate.
pub record SpellNothing (text spelling : List ℕ) (error : CertError) : Type 0 where
  pub tree : Tree
  pub text_of_tree : TextAnswers text (Ok tree)
  pub refused : CertAnswers spelling (Err error)

-- `check` reports claims.
abbrev pub check_work : List Claim → Work
check_work claims = record { stores = []; text = report claims; left_open = false }

-- `prove` stores the certificate and then the exclusion list, and reports its claims.
abbrev pub cert_name : List ℕ → List ℕ
cert_name prefix = prefix ++ codes ".cert"

abbrev pub list_name : List ℕ → List ℕ
list_name prefix = prefix ++ codes ".excl"

abbrev pub proof_work : List ℕ → ℕ → Proven → Work
proof_work prefix effort p = record {
  stores = (cert_name prefix, p.cert.items) ∷ (list_name prefix, exclusions p.claims) ∷ [];
  text = proof_report effort p.claims p.used;
  left_open = some_open p.claims;
}

-- The certificate is accepted, each of its claims is true of the text in every order of its processes, and their report is the work.
pub record Report (text spelling : List ℕ) (work : Work) : Type 0 where
  pub claims : List Claim
  pub accepted : ReadAndJudged text spelling (Ok claims)
  pub are_true : AreTrueInEveryOrder accepted.0 accepted.1 claims
  pub reported : work ≡ check_work claims

-- Claims are proved of the text, and the work is made of them.
pub record Proof (text top clock prefix : List ℕ) (kinds : Kinds) (effort : ℕ) (work : Work) : Type 0 where
  pub proven : Proven
  pub is_proven : IsProven text top clock kinds effort proven
  pub made : work ≡ proof_work prefix effort proven

-- FILE alone was loaded.
abbrev pub OfText : List (List ℕ) → (List ℕ → Type 0) → Type 0
OfText loaded P = (text : List ℕ) × (loaded ≡ text ∷ []) × P text

-- FILE was loaded, and then CERT.
abbrev pub OfBoth : List (List ℕ) → (List ℕ → List ℕ → Type 0) → Type 0
OfBoth loaded P = (text : List ℕ) × (spelling : List ℕ) × (loaded ≡ text ∷ spelling ∷ []) × P text spelling

-- FILE's text is judged before CERT is loaded, CERT's spelling next, and then the one for the other.
abbrev pub CheckRefuses : List (List ℕ) → Refusal → Type 0
CheckRefuses loaded (refusal.Text error) = OfText loaded (λ text. TextAnswers text (Err error))
CheckRefuses loaded (refusal.Cert error) = OfBoth loaded (λ text spelling. SpellNothing text spelling error)
CheckRefuses loaded (refusal.Check error) = OfBoth loaded (λ text spelling. ReadAndJudged text spelling (Err error))
CheckRefuses loaded (refusal.Source error) = ⊥

-- FILE's text has no points under these names: it is refused, or its design is.
abbrev pub ProofRefuses : List ℕ → List ℕ → Kinds → List (List ℕ) → Refusal → Type 0
ProofRefuses top clock kinds loaded (refusal.Text error) = ⊥
ProofRefuses top clock kinds loaded (refusal.Cert error) = ⊥
ProofRefuses top clock kinds loaded (refusal.Check error) = ⊥
ProofRefuses top clock kinds loaded (refusal.Source error) = OfText loaded (λ text. FrontAnswers text (setup_of top clock kinds) (Err error))

-- The work of a command, from the bytes of its files in the order in which they were loaded.
abbrev pub Answers : Command → List (List ℕ) → Work → Type 0
Answers (Check_files file cert) loaded work = OfBoth loaded (λ text spelling. Report text spelling work)
Answers (Prove_file file top clock prefix kinds effort) loaded work = OfText loaded (λ text. Proof text top clock prefix kinds effort work)

-- Why it refuses them.
abbrev pub Refuses : Command → List (List ℕ) → Refusal → Type 0
Refuses (Check_files file cert) = CheckRefuses
Refuses (Prove_file file top clock prefix kinds effort) = ProofRefuses top clock kinds
