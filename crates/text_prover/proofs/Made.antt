-- Claims are made one after another.
use Rattle.std.proofs.Common.{◌≡◌, ℕ, ◌+◌, ◌<◌, List, [], ◌∷◌, ◌++◌, length, get_or, sym, ap, ◌∙◌, subst, arith, ⊎_elim, length-append}
use Rattle.std.proofs.lemmas.List.{map-append, get_or_default, get_or_append_left, get_or_push}
use Rattle.std.proofs.lemmas.Bool.{cases_lt}
use Rattle.bit_system.specs.Machine.{Machine}
use Rattle.cert_text.specs.declared.cert.CertClaim.{CertClaim}
use Rattle.cover_points.specs.declared.point.Point.{Point}
use Rattle.source_check.specs.Judging.{verdict_of}
use Rattle.text_prover.specs.Proving.{units_of}
use Rattle.text_prover.specs.Claims.{IsClaimFor, AreMadeUpTo, units_for}

module _ (m : Machine) (effort : ℕ) (points : List Point) where
  pub made_none : (claims : List CertClaim) (used : List ℕ) → claims ≡ [] → used ≡ [] → AreMadeUpTo m 0 effort points claims used
  made_none claims used no_claims no_used = record {
    long = ap length no_claims;
    each = λ k p c lt. absurd (omega arith);
    units = no_used ∙ sym (ap (units_for effort) no_claims);
  }

  module _ (count : ℕ) (claims later : List CertClaim) (used later_used : List ℕ) (c : CertClaim) (u : ℕ) (p : Point) (made : AreMadeUpTo m count effort points claims used)
      (one : IsClaimFor m count effort p c) (told : u ≡ units_of effort (verdict_of c.body)) (within : count < length points) (at : p ≡ get_or points count p)
      (grown : later ≡ claims ++ c ∷ []) (used_grown : later_used ≡ used ++ u ∷ []) where
    long : count ≡ length claims
    long = sym made.long

    abbrev At : ℕ → Point → CertClaim → Type 0
    At k q d = IsClaimFor m k effort (get_or points k q) (get_or later k d)

    before : (k : ℕ) (q : Point) (d : CertClaim) → k < count → At k q d
    before k q d lt =
        let inside : k < length claims = omega (arith, long) in
        subst (λ (x : CertClaim). IsClaimFor m k effort (get_or points k q) x) (sym (ap (λ xs. get_or xs k d) grown ∙ get_or_append_left claims (c ∷ []) d k inside)) (made.each k q d lt)

    last : (q : Point) (d : CertClaim) → At count q d
    last q d =
        let same_point : p ≡ get_or points count q = at ∙ get_or_default points count p q within in
        let same_claim : c ≡ get_or later count d = sym (ap (λ xs. get_or xs count d) grown ∙ get_or_push claims c d count made.long) in
        subst (λ (x : Point). IsClaimFor m count effort x (get_or later count d)) same_point (subst (λ (x : CertClaim). IsClaimFor m count effort p x) same_claim one)

    pub made_more : AreMadeUpTo m (count + 1) effort points later later_used
    made_more = record {
      long = omega (arith, ap length grown, length-append claims (c ∷ []), long);
      each = λ k q d lt. ⊎_elim (λ lt'. before k q d lt') (λ le. let same : count ≡ k = omega arith in subst (λ j. At j q d) same (last q d)) (cases_lt k count);
      units =
          used_grown ∙ ap (λ (us : List ℕ). us ++ u ∷ []) made.units ∙ ap (λ (x : ℕ). units_for effort claims ++ x ∷ []) told
          ∙ sym (ap (units_for effort) grown ∙ map-append (λ (x : CertClaim). units_of effort (verdict_of x.body)) claims (c ∷ []));
    }
