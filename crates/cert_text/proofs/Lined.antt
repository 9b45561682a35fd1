-- What is read from a text that was written.
use Rattle.std.proofs.Common.{◌≡◌, ℕ, suc, ◌+◌, List, [], ◌∷◌, ◌++◌, length, decimal, codes, Result, Ok, Err, refl, sym, ap, subst, ◌∙◌, arith}
use Rattle.std.specs.List.{flat_map, AllByRecursion}
use Rattle.line_text.specs.Lines.{Line, words, text_of}
use Rattle.line_text.specs.Tagged.{tagged}
use Rattle.cert_text.specs.declared.error.CertError.{CertError}
use Rattle.cert_text.specs.declared.error.CertError.TheVariants.{BadCert, Memory}
use Rattle.cert_text.specs.declared.cert.CertClaim.{CertClaim}
use Rattle.cert_text.specs.declared.cert.Cert.{Cert}
use Rattle.cert_text.specs.Points.{IsPoint}
use Rattle.cert_text.specs.Spelling.{setup_lines, claim_lines, spelling, FitsBody, FitClaims, Fits}
use Rattle.cert_text.specs.Answers.{CertAnswers}
use Rattle.cert_text.specs.Written.{lined_from, lined, FitsButLines, Gives, Reads, ReadIsWritten, WrittenIsRead}
use Rattle.cert_text.proofs.Whole.{one_certificate, good_or_bad}

abbrev FitsAlone : CertClaim → Type 0
FitsAlone x = IsPoint (words x.point) × FitsBody x.body

claims_fit : (n : ℕ) (cs : List CertClaim) → AllByRecursion FitsAlone cs → FitClaims n (lined_from n cs)
claims_fit n [] f = tt
claims_fit n (c ∷ cs) f = ((refl, f.0.0, f.0.1), claims_fit (n + length (claim_lines c)) cs f.1)

same_count : (n : ℕ) (cs : List CertClaim) → length (lined_from n cs) ≡ length cs
same_count n [] = refl
same_count n (c ∷ cs) = ap suc (same_count (n + length (claim_lines c)) cs)

same_lines : (n : ℕ) (cs : List CertClaim) → flat_map claim_lines (lined_from n cs) ≡ flat_map claim_lines cs
same_lines n [] = refl
same_lines n (c ∷ cs) = ap (λ (ls : List Line). claim_lines c ++ ls) (same_lines (n + length (claim_lines c)) cs)

same_spelling : (c : Cert) → spelling (lined c) ≡ spelling c
same_spelling c =
    let n : ℕ = length (setup_lines c.setup) + 2 in
    ap (λ (k : ℕ). text_of (setup_lines c.setup ++ tagged (codes "claims") (decimal k) ∷ flat_map claim_lines (lined_from n c.claims))) (same_count n c.claims)
    ∙ ap (λ (ls : List Line). text_of (setup_lines c.setup ++ tagged (codes "claims") (decimal (length c.claims)) ∷ ls)) (same_lines n c.claims)

lined_fits : (c : Cert) → FitsButLines c → Fits (lined c)
lined_fits c f =
    let n : ℕ = length (setup_lines c.setup) + 2 in
    record {
      setup = f.setup;
      count = omega (arith, same_count n c.claims, f.count);
      claims = claims_fit (1 + length (setup_lines c.setup) + 1) c.claims f.claims;
    }

only_this : (c : Cert) → Fits c → (answer : Result Cert CertError) → CertAnswers (spelling c) answer → Gives c answer
only_this c f (Ok d) a = one_certificate d c a.0 f (sym a.1)
only_this c f (Err (BadCert line)) a = good_or_bad c line f a
only_this c f (Err Memory) a = tt

pub written_is_read : WrittenIsRead
written_is_read c f =
    let fits : Fits (lined c) = lined_fits c f in
    subst (λ (text : List ℕ). Reads text (lined c)) (same_spelling c) (record { given = (fits, refl); only = only_this (lined c) fits })

claims_fit_alone : (n : ℕ) (cs : List CertClaim) → FitClaims n cs → AllByRecursion FitsAlone cs
claims_fit_alone n [] f = tt
claims_fit_alone n (c ∷ cs) f = ((f.0.1, f.0.2), claims_fit_alone (n + length (claim_lines c)) cs f.1)

abbrev numbered : ℕ → CertClaim → CertClaim
numbered n c = record { line = n; point = c.point; body = c.body }

already_lined : (n : ℕ) (cs : List CertClaim) → FitClaims n cs → lined_from n cs ≡ cs
already_lined n [] f = refl
already_lined n (c ∷ cs) f =
    ap (λ (ds : List CertClaim). numbered n c ∷ ds) (already_lined (n + length (claim_lines c)) cs f.1)
    ∙ ap (λ (k : ℕ). numbered k c ∷ cs) (sym f.0.0)

pub read_is_written : ReadIsWritten
read_is_written text c a =
    let fits : Fits c = a.0 in
    let n : ℕ = length (setup_lines c.setup) + 2 in
    let claims : FitClaims n c.claims = fits.claims in (
      sym a.1,
      record { setup = fits.setup; count = fits.count; claims = claims_fit_alone n c.claims claims },
      ap (λ (cs : List CertClaim). record { setup = c.setup; claims = cs }) (already_lined n c.claims claims),
    )
