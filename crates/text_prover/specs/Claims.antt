-- Claims that were made for points.
use Rattle.std.specs.Prelude.{◌≡◌, ℕ, ◌<◌, List, map, length, slice_index_or}
use Rattle.bit_system.specs.Machine.{Machine}
use Rattle.cert_text.specs.declared.cert.CertClaim.{CertClaim}
use Rattle.cover_points.specs.declared.point.Point.{Point}
use Rattle.source_check.specs.Judging.{verdict_of}
use Rattle.point_prover.specs.declared.prover.Proved.{Proved}
use Rattle.point_prover.specs.declared.prover.Proved.TheVariants.{Reached, Excluded, Open}
use Rattle.point_prover.specs.Proved.{IsProved}
use Rattle.text_prover.specs.Proving.{units_of}
use Rattle.text_prover.specs.Naming.{body_of}
use Rattle.text_prover.specs.Numbers.{NumbersFit}

-- the units that are told of what was found out
abbrev pub used_by : Proved → ℕ
used_by (Excluded l) = 0
used_by (Reached w) = 0
used_by (Open cycles l used) = used

-- the claim is for this point, the k-th of the system, and says what was found out of it
pub record IsClaimFor (m : Machine) (k effort : ℕ) (p : Point) (c : CertClaim) : Type 0 where
  pub name : c.point ≡ p.name
  pub found : Proved
  pub proved : IsProved m k effort found
  pub fits : NumbersFit found
  pub body : c.body ≡ body_of m.states found

-- the units that are told of these claims
abbrev pub units_for : ℕ → List CertClaim → List ℕ
units_for effort claims = map (λ (c : CertClaim). units_of effort (verdict_of c.body)) claims

-- the claims are for the first so many of these points, and so many units were used for them
pub record AreMadeUpTo (m : Machine) (count effort : ℕ) (points : List Point) (claims : List CertClaim) (used : List ℕ) : Type 0 where
  pub long : length claims ≡ count
  pub each : (k : ℕ) (p : Point) (c : CertClaim) → k < count → IsClaimFor m k effort (slice_index_or points k p) (slice_index_or claims k c)
  pub units : used ≡ units_for effort claims

-- the claims are for these points, in order, one each
abbrev pub AreClaimsFor : Machine → ℕ → List Point → List CertClaim → List ℕ → Type 0
AreClaimsFor m effort points claims used = AreMadeUpTo m (length points) effort points claims used
