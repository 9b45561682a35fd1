-- A certificate that was made passes its own check.
use Rattle.std.proofs.Common.{◌≡◌, ℕ, List, map, Result, Ok, ap, ◌∙◌, sym, subst}
use Rattle.vlog_syntax.specs.declared.module.Tree.{Tree}
use Rattle.vlog_modules.proofs.Once.{one_tree}
use Rattle.design_core.specs.declared.setup.Kinds.{Kinds}
use Rattle.cert_text.specs.declared.cert.Cert.{Cert}
use Rattle.cert_text.specs.declared.claim.Claim.{Claim}
use Rattle.cert_text.specs.Answers.{CertAnswers}
use Rattle.source_check.specs.declared.error.CheckError.{CheckError}
use Rattle.source_check.specs.Judging.{Judges, AreTrue, told}
use Rattle.source_check.specs.Checking.{CheckAnswers, ClaimsAreTrue}
use Rattle.text_prover.specs.declared.proving.Proven.{Proven}
use Rattle.text_prover.specs.Laws.{GivesOnly}
use Rattle.text_prover.specs.Making.{IsMade}
use Rattle.text_prover.specs.Proving.{IsProven, units_of}
use Rattle.text_prover.proofs.OneAnswer.{one_cert, accepted_is_accepted}

module _ (text top clock : List ℕ) (kinds : Kinds) (effort : ℕ) (bytes used given : List ℕ) (made : IsMade text top clock kinds effort bytes used) (same : given ≡ bytes) where
  abbrev claims : List Claim
  claims = map told made.cert.claims

  -- checking answers these claims, or lacks memory
  pub answers_these : (answer : Result (List Claim) CheckError) → CheckAnswers text given answer → GivesOnly claims answer
  answers_these answer h =
      accepted_is_accepted text bytes made.tree made.cert claims made.of_text made.of_spelling made.accepted answer (let P : List ℕ → Type 0 = λ bs. CheckAnswers text bs answer in subst P same h)

  module _ (told_claims : List Claim) (these : told_claims ≡ claims) where
    judged : Judges made.tree made.cert (Ok told_claims)
    judged = subst (λ (cs : List Claim). Judges made.tree made.cert (Ok cs)) (sym these) made.accepted

    true_of_these : ClaimsAreTrue text given told_claims → AreTrue made.tree made.cert told_claims
    true_of_these (tree, cert, of_text, of_bytes, true') =
        let P : Tree → Type 0 = λ t. AreTrue t cert told_claims in
        let Q : Cert → Type 0 = λ c. AreTrue made.tree c told_claims in
        let of_same = (let R : List ℕ → Type 0 = λ bs. CertAnswers bs (Ok cert) in subst R same of_bytes) in
        subst Q (one_cert bytes cert made.cert of_same made.of_spelling) (subst P (one_tree text tree made.tree of_text made.of_text) true')

    units : used ≡ map (λ (c : Claim). units_of effort c.verdict) told_claims
    units = made.units ∙ ap (map (λ (c : Claim). units_of effort c.verdict)) (sym these)

  pub is_proven : (p : Proven) → p.cert.items ≡ bytes → p.used ≡ used → CheckAnswers text given (Ok p.claims) → ClaimsAreTrue text given p.claims → IsProven text top clock kinds effort p
  is_proven p cert_is used_is answers true' =
      let these : p.claims ≡ claims = answers_these (Ok p.claims) answers in
      record {
        tree = made.tree;
        cert = made.cert;
        of_text = made.of_text;
        of_spelling = (let R : List ℕ → Type 0 = λ bs. CertAnswers bs (Ok made.cert) in subst R (sym cert_is) made.of_spelling);
        setup = made.setup;
        accepted = judged p.claims these;
        are_true = true_of_these p.claims these true';
        used = used_is ∙ units p.claims these;
      }
