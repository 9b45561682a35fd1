-- The steps of `prove`, and what is known then.
use Rattle.std.proofs.Common.{◌≡◌, ℕ, List, [], ◌∷◌, Result, Ok, Err, Vec, refl, subst, ap, ◌∙◌}
use Rattle.std.specs.declared.alloc.Global.{Global}
use Rattle.design_core.specs.declared.setup.Kinds.{Kinds}
use Rattle.unr_io.specs.Desk.{DeskState}
use Rattle.cert_text.specs.declared.claim.Claim.{Claim}
use Rattle.source_check.specs.declared.error.SourceError.{SourceError}
use Rattle.source_check.specs.Checking.{FrontAnswers}
use Rattle.text_prover.specs.declared.proving.Proven.{Proven}
use Rattle.text_prover.specs.Proving.{setup_of, IsProven, ProveAnswers}
use Rattle.unr_engine.specs.declared.stop.Stop.{Stop}
use Rattle.unr_engine.specs.declared.stop.Refusal.TheVariants as refusal
use Rattle.unr_engine.specs.Content.{ProofRefuses, proof_work, Answers}
use Rattle.unr_engine.specs.Report.{exclusions, proof_report}
use Rattle.unr_engine.specs.Steps.{Fetched, Kept}
use Rattle.unr_engine.specs.Words.{Prove_file}
use Rattle.unr_engine.proofs.Runs.{SoFar, begun, fetched}

pub text_loaded : (file top clock prefix : List ℕ) (kinds : Kinds) (effort : ℕ) (text : Vec ℕ Global) (desk desk' : DeskState) → Fetched file 4194305 (Ok text) desk desk' → SoFar (Prove_file file top clock prefix kinds effort) (text.items ∷ []) [] desk desk'
text_loaded file top clock prefix kinds effort text desk desk' f =
    fetched (Prove_file file top clock prefix kinds effort) [] file 4194305 text desk desk desk' (begun (Prove_file file top clock prefix kinds effort) desk) refl f

-- what is proved of the same bytes
pub proven_so : (text text' top top' clock clock' : List ℕ) (kinds : Kinds) (effort : ℕ) (p : Proven) → text' ≡ text → top' ≡ top → clock' ≡ clock → IsProven text' top' clock' kinds effort p → IsProven text top clock kinds effort p
proven_so text text' top top' clock clock' kinds effort p t u v h =
    let P : List ℕ → Type 0 = λ x. IsProven x top' clock' kinds effort p in
    let Q : List ℕ → Type 0 = λ x. IsProven text x clock' kinds effort p in
    let R : List ℕ → Type 0 = λ x. IsProven text top x kinds effort p in
    subst R v (subst Q u (subst P t h))

pub front_so : (text text' top top' clock clock' : List ℕ) (kinds : Kinds) (error : SourceError) → text' ≡ text → top' ≡ top → clock' ≡ clock → FrontAnswers text' (setup_of top' clock' kinds) (Err error) → FrontAnswers text (setup_of top clock kinds) (Err error)
front_so text text' top top' clock clock' kinds error t u v h =
    let P : List ℕ → Type 0 = λ x. FrontAnswers x (setup_of top' clock' kinds) (Err error) in
    let Q : List ℕ → Type 0 = λ x. FrontAnswers text (setup_of x clock' kinds) (Err error) in
    let R : List ℕ → Type 0 = λ x. FrontAnswers text (setup_of top x kinds) (Err error) in
    subst R v (subst Q u (subst P t h))

pub kept_so : (name bytes bytes' : List ℕ) (result : Result (Unit {0}) Stop) (desk desk' : DeskState) → bytes' ≡ bytes → Kept name bytes' result desk desk' → Kept name bytes result desk desk'
kept_so name bytes bytes' result desk desk' same k = let P : List ℕ → Type 0 = λ b. Kept name b result desk desk' in subst P same k

-- a refusal, and none
pub proof_refused : (text text' top top' clock clock' : List ℕ) (kinds : Kinds) (effort : ℕ) (error : SourceError) → text' ≡ text → top' ≡ top → clock' ≡ clock → ProveAnswers text' top' clock' kinds effort (Err error) → ProofRefuses top clock kinds (text ∷ []) (refusal.Source error)
proof_refused text text' top top' clock clock' kinds effort error t u v a = (text, refl, front_so text text' top top' clock clock' kinds error t u v a)

pub proof_answered : (file top clock prefix text text' top' clock' : List ℕ) (kinds : Kinds) (effort : ℕ) (p : Proven) → text' ≡ text → top' ≡ top → clock' ≡ clock → ProveAnswers text' top' clock' kinds effort (Ok p) → Answers (Prove_file file top clock prefix kinds effort) (text ∷ []) (proof_work prefix effort p)
proof_answered file top clock prefix text text' top' clock' kinds effort p t u v a = (
  text,
  refl,
  record { proven = p; is_proven = proven_so text text' top top' clock clock' kinds effort p t u v a; made = refl },
)

-- the texts
pub list_of : (claims shown : List Claim) (items put : List ℕ) → shown ≡ claims → items ≡ exclusions shown → put ≡ items → put ≡ exclusions claims
list_of claims shown items put same made read = read ∙ (made ∙ ap exclusions same)

pub proof_report_of : (effort : ℕ) (claims shown : List Claim) (used spent items put : List ℕ) → shown ≡ claims → spent ≡ used → items ≡ proof_report effort shown spent → put ≡ items → put ≡ proof_report effort claims used
proof_report_of effort claims shown used spent items put same units made read = read ∙ (made ∙ (ap (λ cs. proof_report effort cs spent) same ∙ ap (λ us. proof_report effort claims us) units))
