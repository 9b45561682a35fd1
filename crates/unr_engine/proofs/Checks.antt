-- The loads of `check`, and what is known then.
use Rattle.std.proofs.Common.{◌≡◌, ℕ, ◌-◌, ◌^◌, List, [], ◌∷◌, Result, Ok, Err, Vec, refl, subst, ap, ◌∙◌}
use Rattle.std.specs.declared.alloc.Global.{Global}
use Rattle.unr_io.specs.Desk.{DeskState}
use Rattle.vlog_syntax.specs.declared.module.Tree.{Tree}
use Rattle.vlog_modules.specs.declared.error.TextError.{TextError}
use Rattle.vlog_modules.specs.Answers.{TextAnswers}
use Rattle.cert_text.specs.declared.cert.Cert.{Cert}
use Rattle.cert_text.specs.declared.error.CertError.{CertError}
use Rattle.cert_text.specs.declared.claim.Claim.{Claim}
use Rattle.cert_text.specs.Answers.{CertAnswers}
use Rattle.source_check.specs.declared.error.CheckError.{CheckError}
use Rattle.source_check.specs.Checking.{ReadAndJudged}
use Rattle.every_order.proofs.Verdicts.{true_in_every_order}
use Rattle.source_check.specs.Judging.{Judges, AreTrue}
use Rattle.unr_engine.specs.declared.stop.Refusal.TheVariants as refusal
use Rattle.unr_engine.specs.Content.{SpellNothing, CheckRefuses, check_work, Answers}
use Rattle.unr_engine.specs.Report.{report}
use Rattle.unr_engine.specs.Steps.{Fetched}
use Rattle.unr_engine.specs.Words.{Check_files}
use Rattle.unr_engine.proofs.Runs.{SoFar, begun, fetched}

pub file_loaded : (file cert : List ℕ) (text : Vec ℕ Global) (desk desk' : DeskState) → Fetched file 4194305 (Ok text) desk desk' → SoFar (Check_files file cert) (text.items ∷ []) [] desk desk'
file_loaded file cert text desk desk' f = fetched (Check_files file cert) [] file 4194305 text desk desk desk' (begun (Check_files file cert) desk) refl f

pub both_loaded : (file cert : List ℕ) (text spelling : Vec ℕ Global) (desk desk' desk'' : DeskState) → Fetched file 4194305 (Ok text) desk desk' → Fetched cert (2 ^ 64 - 1) (Ok spelling) desk' desk'' → SoFar (Check_files file cert) (text.items ∷ spelling.items ∷ []) [] desk desk''
both_loaded file cert text spelling desk desk' desk'' f g =
    fetched (Check_files file cert) (text.items ∷ []) cert (2 ^ 64 - 1) spelling desk desk' desk'' (file_loaded file cert text desk desk' f) refl g

-- what is answered to the same bytes
pub text_so : (text text' : List ℕ) (result : Result Tree TextError) → text' ≡ text → TextAnswers text' result → TextAnswers text result
text_so text text' result same answers = let P : List ℕ → Type 0 = λ bytes. TextAnswers bytes result in subst P same answers

pub cert_so : (text text' : List ℕ) (result : Result Cert CertError) → text' ≡ text → CertAnswers text' result → CertAnswers text result
cert_so text text' result same answers = let P : List ℕ → Type 0 = λ bytes. CertAnswers bytes result in subst P same answers

abbrev judged_so : (text text' spelling spelling' : List ℕ) (tree : Tree) (certificate : Cert) (result : Result (List Claim) CheckError) → text' ≡ text → spelling' ≡ spelling → TextAnswers text' (Ok tree) → CertAnswers spelling' (Ok certificate) → Judges tree certificate result → ReadAndJudged text spelling result
judged_so text text' spelling spelling' tree certificate result t s a b j =
    (tree, certificate, text_so text text' (Ok tree) t a, cert_so spelling spelling' (Ok certificate) s b, j)

pub both_so : (text text' spelling spelling' : List ℕ) (result : Result (List Claim) CheckError) → text' ≡ text → spelling' ≡ spelling → ReadAndJudged text' spelling' result → ReadAndJudged text spelling result
both_so text text' spelling spelling' result t s j = judged_so text text' spelling spelling' j.0 j.1 result t s j.2 j.3 j.4

pub nothing_so : (text text' spelling spelling' : List ℕ) (error : CertError) → text' ≡ text → spelling' ≡ spelling → SpellNothing text' spelling' error → SpellNothing text spelling error
nothing_so text text' spelling spelling' error t s n = record {
  tree = n.tree;
  text_of_tree = text_so text text' (Ok n.tree) t n.text_of_tree;
  refused = cert_so spelling spelling' (Err error) s n.refused;
}

-- the three refusals, in their order
pub text_refused : (text text' : List ℕ) (error : TextError) → text' ≡ text → TextAnswers text' (Err error) → CheckRefuses (text ∷ []) (refusal.Text error)
text_refused text text' error t a = (text, refl, text_so text text' (Err error) t a)

pub cert_refused : (text text' spelling spelling' : List ℕ) (tree : Tree) (error : CertError) → text' ≡ text → spelling' ≡ spelling → TextAnswers text' (Ok tree) → CertAnswers spelling' (Err error) → CheckRefuses (text ∷ spelling ∷ []) (refusal.Cert error)
cert_refused text text' spelling spelling' tree error t s a b = (
  text,
  spelling,
  refl,
  record {
    tree = tree;
    text_of_tree = text_so text text' (Ok tree) t a;
    refused = cert_so spelling spelling' (Err error) s b;
  },
)

pub check_refused : (text text' spelling spelling' : List ℕ) (tree : Tree) (certificate : Cert) (error : CheckError) → text' ≡ text → spelling' ≡ spelling → TextAnswers text' (Ok tree) → CertAnswers spelling' (Ok certificate) → Judges tree certificate (Err error) → CheckRefuses (text ∷ spelling ∷ []) (refusal.Check error)
check_refused text text' spelling spelling' tree certificate error t s a b j = (text, spelling, refl, judged_so text text' spelling spelling' tree certificate (Err error) t s a b j)

-- and no refusal
pub answered : (file cert text text' spelling spelling' : List ℕ) (tree : Tree) (certificate : Cert) (claims : List Claim) → text' ≡ text → spelling' ≡ spelling → TextAnswers text' (Ok tree) → CertAnswers spelling' (Ok certificate) → Judges tree certificate (Ok claims) → AreTrue tree certificate claims → Answers (Check_files file cert) (text ∷ spelling ∷ []) (check_work claims)
answered file cert text text' spelling spelling' tree certificate claims t s a b j facts = (
  text,
  spelling,
  refl,
  record {
    claims = claims;
    accepted = judged_so text text' spelling spelling' tree certificate (Ok claims) t s a b j;
    are_true = true_in_every_order tree certificate claims facts;
    reported = refl;
  },
)

-- the report that is put out
pub report_of : (claims shown : List Claim) (put : List ℕ) → shown ≡ claims → put ≡ report shown → put ≡ report claims
report_of claims shown put same r = r ∙ ap report same
