-- A text has one tree, one design and, for a certificate that is accepted, one answer.
use Rattle.std.proofs.Common.{◌≡◌, ℕ, ◌+◌, List, [], ◌∷◌, length, Result, Ok, Err, refl, ap, ◌∙◌, sym, subst, inl, inr, arith}
use Rattle.vlog_syntax.specs.declared.module.Tree.{Tree}
use Rattle.design_core.specs.declared.flat.Design.{Design}
use Rattle.design_core.specs.declared.setup.Setup.{Setup}
use Rattle.vlog_modules.specs.declared.error.TextError.{TextError}
use Rattle.vlog_modules.specs.declared.error.TextError.TheVariants as text_error
use Rattle.vlog_modules.specs.Answers.{TextAnswers}
use Rattle.vlog_expr.specs.declared.error.ParseError.TheVariants as parse_error
use Rattle.vlog_modules.proofs.Once.{one_tree, not_both, not_left_out, not_too_deep, not_lexical}
use Rattle.cert_text.specs.declared.cert.Cert.{Cert}
use Rattle.cert_text.specs.declared.cert.CertClaim.{CertClaim}
use Rattle.cert_text.specs.declared.cert.Body.{Body}
use Rattle.cert_text.specs.declared.cert.Body.TheVariants.{Reached, Excluded, Open}
use Rattle.cert_text.specs.declared.error.CertError.{CertError}
use Rattle.cert_text.specs.declared.error.CertError.TheVariants as cert_error
use Rattle.cert_text.specs.declared.claim.Claim.{Claim}
use Rattle.cert_text.specs.Spelling.{IsFirstBad}
use Rattle.cert_text.specs.Answers.{CertAnswers}
use Rattle.cert_text.proofs.Whole.{one_certificate, good_or_bad}
use Rattle.bit_system.specs.Machine.{Machine}
use Rattle.bit_system.specs.Accepted.{IsAccepted}
use Rattle.bit_system.specs.declared.ladder.Depth.TheVariants.{All as Forever, Steps}
use Rattle.bit_system.specs.declared.ladder.Ladder.{Ladder}
use Rattle.ladder_check.specs.declared.fault.LadderFault.{LadderFault}
use Rattle.ladder_check.specs.declared.fault.LadderFault.TheVariants as ladder
use Rattle.ladder_check.proofs.Refused.{refused}
use Rattle.plain_blast.specs.Cost.{cost_of}
use Rattle.elab_flat.proofs.OneDesign.{one_design}
use Rattle.source_check.specs.declared.error.SourceError.TheVariants as source_error
use Rattle.source_check.specs.declared.error.CheckError.{CheckError}
use Rattle.source_check.specs.declared.error.CheckError.TheVariants as check_error
use Rattle.cover_points.specs.declared.point.Point.{Point}
use Rattle.source_check.specs.Legal.{IsElaborated, TooCostly, TooManyPoints}
use Rattle.source_check.specs.Ladders.{state_names, ladder_of, LadderRefused}
use Rattle.cover_points.specs.declared.error.PointError.{PointError}
use Rattle.cover_points.specs.declared.error.PointError.TheVariants as point_error
use Rattle.cover_points.specs.Points.{points_of}
use Rattle.source_check.specs.Judging.{system_of, Judges, Holds, Accepted, FirstFault, Fails, FailFirst}
use Rattle.source_check.specs.Checking.{CheckAnswers, TextRefused, CertRefused, ReadAndJudged}
use Rattle.text_prover.specs.Laws.{GivesOnly, AcceptedIsAccepted}

-- ---- a text that has a tree isn't refused, nor is a certificate that is read

pub tree_or_error : (text : List ℕ) (tree : Tree) (error : TextError) → TextAnswers text (Ok tree) → TextAnswers text (Err error) → error ≡ text_error.Memory
tree_or_error text tree (text_error.TooLong count) a b = absurd (omega (arith, a.0, b.0))
tree_or_error text tree (text_error.Lex cause) a b = absurd (not_lexical text tree cause a b)
tree_or_error text tree (text_error.Parse (parse_error.Expected place what)) a b = absurd (not_both text tree place what a b)
tree_or_error text tree (text_error.Parse (parse_error.NotInProfile place)) a b = absurd (not_left_out text tree place a b)
tree_or_error text tree (text_error.Parse (parse_error.TooDeep place)) a b = absurd (not_too_deep text tree place a b)
tree_or_error text tree (text_error.Parse parse_error.Memory) a b = absurd b
tree_or_error text tree text_error.Memory a b = refl

not_refused : (text : List ℕ) (tree : Tree) (error : TextError) → TextAnswers text (Ok tree) → TextRefused text error → ⊥
not_refused text tree (text_error.TooLong count) a b = let lacks : text_error.TooLong count ≡ text_error.Memory = tree_or_error text tree (text_error.TooLong count) a b in cc
not_refused text tree (text_error.Lex error) a b = let lacks : text_error.Lex error ≡ text_error.Memory = tree_or_error text tree (text_error.Lex error) a b in cc
not_refused text tree (text_error.Parse error) a b = let lacks : text_error.Parse error ≡ text_error.Memory = tree_or_error text tree (text_error.Parse error) a b in cc
not_refused text tree text_error.Memory a b = b

not_unread : (bytes : List ℕ) (cert : Cert) (error : CertError) → CertAnswers bytes (Ok cert) → CertRefused bytes error → ⊥
not_unread bytes cert (cert_error.BadCert line) a b = good_or_bad cert line a.0 (let P : List ℕ → Type 0 = λ x. IsFirstBad x line in subst P a.1 b)
not_unread bytes cert cert_error.Memory a b = b

pub one_cert : (bytes : List ℕ) (cert other : Cert) → CertAnswers bytes (Ok cert) → CertAnswers bytes (Ok other) → cert ≡ other
one_cert bytes cert other a b = one_certificate cert other a.0 b.0 (sym a.1 ∙ b.1)

-- ---- claims that are accepted have no fault

-- a ladder that is refused isn't accepted
shows_or_not : (m : Machine) (k : ℕ) (l : Ladder) (f : LadderFault) → IsAccepted m k l → LadderRefused m k l f → ⊥
shows_or_not m k l ladder.Shape a r = refused m k l ladder.Shape r (λ e. cc) a
shows_or_not m k l (ladder.StartFails n) a r = refused m k l (ladder.StartFails n) r (λ e. cc) a
shows_or_not m k l (ladder.Line query fault) a r = refused m k l (ladder.Line query fault) r (λ e. cc) a
shows_or_not m k l ladder.Memory a r = r

holds_or_fails : (m : Machine) (d : Design) (setup : Setup) (k : ℕ) (p : Point) (body : Body) (fault : CheckError) → Holds m d setup k p body → Fails m d setup k p body fault → ⊥
holds_or_fails m d setup k p (Reached cycle stimulus) fault h f = f.0 h
holds_or_fails m d setup k p (Excluded l) fault h f = shows_or_not m k (ladder_of (state_names m.states) Forever l) f.0 h f.2
holds_or_fails m d setup k p (Open cycles l) fault h f = shows_or_not m k (ladder_of (state_names m.states) (Steps cycles) l) f.0 h f.2

no_fault : (m : Machine) (d : Design) (setup : Setup) (k : ℕ) (points : List Point) (claims : List CertClaim) (fault : CheckError) → Accepted m d setup k points claims →
    FirstFault m d setup k points claims fault → ⊥
no_fault m d setup k [] [] fault a f = f
no_fault m d setup k [] (c ∷ cs) fault a f = a
no_fault m d setup k (p ∷ ps) [] fault a f = a
no_fault m d setup k (p ∷ ps) (c ∷ cs) fault a f =
    elim f [
      | inl other ↦ other.0 a.0
      | inr more ↦ elim more [
        | inl untrue ↦ holds_or_fails m d setup k p c.body fault a.1 untrue.1
        | inr later ↦ no_fault m d setup (k + 1) ps cs fault a.2 later.2
      ]
    ]

accepted_or_fails : (tree : Tree) (cert : Cert) (claims : List Claim) (fault : CheckError) → Judges tree cert (Ok claims) → FailFirst tree cert fault → ⊥
accepted_or_fails tree cert claims fault a f =
    let same = one_design tree cert.setup f.0 a.0 f.1.design a.1.design in
    no_fault (system_of a.0 cert.setup) a.0 cert.setup 0 (points_of a.0 cert.setup) cert.claims fault a.2
    (let P : Design → Type 0 = λ d. FirstFault (system_of d cert.setup) d cert.setup 0 (points_of d cert.setup) cert.claims fault in subst P same f.2)

-- a design that may be taken doesn't cost too much
cheap_or_costly : (tree : Tree) (setup : Setup) (d : Design) (cost : ℕ) → IsElaborated tree setup d → TooCostly tree setup cost → ⊥
cheap_or_costly tree setup d cost a b =
    let same = one_design tree setup d b.0 a.design b.1 in
    let cheap = a.cheap in
    let dear = b.2 in
    omega (arith, ap cost_of same)

-- and hasn't too many points
few_or_many : (tree : Tree) (setup : Setup) (d : Design) (error : PointError) → IsElaborated tree setup d → TooManyPoints tree setup error → ⊥
few_or_many tree setup d (point_error.TooMany number) a b =
    let same = one_design tree setup d b.0 a.design b.1.design in
    let few = a.few in
    let many = b.2 in
    omega (arith, ap (λ (x : Design). length (points_of x setup)) same)
few_or_many tree setup d point_error.Memory a b = b

-- ---- one answer

judged_once : (tree : Tree) (cert : Cert) (claims : List Claim) (answer : Result (List Claim) CheckError) → Judges tree cert (Ok claims) → Judges tree cert answer → GivesOnly claims answer
judged_once tree cert claims (Ok others) a b = b.3 ∙ sym a.3
judged_once tree cert claims (Err (check_error.Source (source_error.Text error))) a b = absurd b
judged_once tree cert claims (Err (check_error.Source (source_error.NotBuilt place))) a b = absurd (b.0 (a.0, a.1.design))
judged_once tree cert claims (Err (check_error.Source (source_error.CostOver cost))) a b = absurd (cheap_or_costly tree cert.setup a.0 cost a.1 b)
judged_once tree cert claims (Err (check_error.Source (source_error.Points error))) a b = absurd (few_or_many tree cert.setup a.0 error a.1 b)
judged_once tree cert claims (Err (check_error.Source source_error.Memory)) a b = absurd b
judged_once tree cert claims (Err (check_error.Cert error)) a b = absurd b
judged_once tree cert claims (Err (check_error.WrongPoint line)) a b = absurd (accepted_or_fails tree cert claims (check_error.WrongPoint line) a b)
judged_once tree cert claims (Err (check_error.Missing point)) a b = absurd (accepted_or_fails tree cert claims (check_error.Missing point) a b)
judged_once tree cert claims (Err (check_error.NotHit point)) a b = absurd (accepted_or_fails tree cert claims (check_error.NotHit point) a b)
judged_once tree cert claims (Err (check_error.Ladder point fault)) a b = absurd (accepted_or_fails tree cert claims (check_error.Ladder point fault) a b)
judged_once tree cert claims (Err check_error.Memory) a b = refl

module _ (text bytes : List ℕ) (tree : Tree) (cert : Cert) (claims : List Claim) (of_text : TextAnswers text (Ok tree)) (of_bytes : CertAnswers bytes (Ok cert)) (judged : Judges tree cert (Ok claims)) where
  -- whatever tree and certificate were judged, they are these
  judged_here : (answer : Result (List Claim) CheckError) → ReadAndJudged text bytes answer → GivesOnly claims answer
  judged_here answer r =
      let P : Tree → Type 0 = λ t. Judges t r.1 answer in
      let Q : Cert → Type 0 = λ c. Judges tree c answer in
      judged_once tree cert claims answer judged (subst Q (one_cert bytes r.1 cert r.3 of_bytes) (subst P (one_tree text r.0 tree r.2 of_text) r.4))

  answered_once : (answer : Result (List Claim) CheckError) → CheckAnswers text bytes answer → GivesOnly claims answer
  answered_once (Ok others) r = judged_here (Ok others) r
  answered_once (Err (check_error.Source (source_error.Text error))) r = absurd (not_refused text tree error of_text r)
  answered_once (Err (check_error.Source (source_error.NotBuilt place))) r = judged_here (Err (check_error.Source (source_error.NotBuilt place))) r
  answered_once (Err (check_error.Source (source_error.CostOver cost))) r = judged_here (Err (check_error.Source (source_error.CostOver cost))) r
  answered_once (Err (check_error.Source (source_error.Points error))) r = judged_here (Err (check_error.Source (source_error.Points error))) r
  answered_once (Err (check_error.Source source_error.Memory)) r = absurd r
  answered_once (Err (check_error.Cert error)) r = absurd (not_unread bytes cert error of_bytes r.2)
  answered_once (Err (check_error.WrongPoint line)) r = judged_here (Err (check_error.WrongPoint line)) r
  answered_once (Err (check_error.Missing point)) r = judged_here (Err (check_error.Missing point)) r
  answered_once (Err (check_error.NotHit point)) r = judged_here (Err (check_error.NotHit point)) r
  answered_once (Err (check_error.Ladder point fault)) r = judged_here (Err (check_error.Ladder point fault)) r
  answered_once (Err check_error.Memory) r = refl

pub accepted_is_accepted : AcceptedIsAccepted
accepted_is_accepted text bytes tree cert claims of_text of_bytes judged answer r = answered_once text bytes tree cert claims of_text of_bytes judged answer r
